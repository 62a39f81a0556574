-- `Answered::from_row` meets its contract: the parts that are lent are the answers to the row and to the row that it was joined from.
use mathlib.Core.Path.{ap, ap₂, ◌∙◌}
use mathlib.Core.List.{List}
use Prim.Native.Nat.{ℕ, ◌+◌, ◌*◌, ◌≤◌}
use native.Mathlib.Nat.{add-sub_cancel_left}
use native.Mathlib.Omega.{arith}
use lib.Dec.{eqb}
use lib.ListN.{length}
use Rattle.lists.specs.Parts.{cut, lay}
use Rattle.symbol.specs.Sum.{less}
use Rattle.symbol.specs.Operations.{sum_of}
use Rattle.even_recover.specs.Rows.{own_row, joined_from, group_symbol}
use Rattle.even_recover.proofs.Held.{row_inside, own-row, joined-row}
use Rattle.even_recover.proofs.Answered.from_row.Goals as goal
use Rattle.even_recover.proofs.Answered.from_row.Goals.{After-joined_from}

-- the row that this one was joined from lies inside
from-inside : (c : After-joined_from) → c.joined_from.result * c.args.self.now.here.symbol + c.args.self.now.here.symbol ≤ length c.args.self.now.answers.now
from-inside c = let a = c.args in
    rw c.joined_from.ensures
    (row_inside a.self.now.here a.self.now.answers.now (joined_from a.self.now.here a.group a.i) c.args.self.now.held
    (joined-row a.self.now.here a.group a.i c.args.self.now.held.bounded c.requires.grouped c.requires.i_lt_count))

pub overflow_mul-joined : goal.overflow_mul-joined
overflow_mul-joined c = omega (arith, from-inside c)

pub overflow_add-joined_end : goal.overflow_add-joined_end
overflow_add-joined_end c = omega (arith, from-inside c)

pub slice_bounds-write_difference-end : goal.slice_bounds-write_difference-end
slice_bounds-write_difference-end c = let a = c.args in
    row_inside a.self.now.here a.self.now.answers.now (own_row a.self.now.here a.group a.i) c.args.self.now.held
    (own-row a.self.now.here a.group a.i c.args.self.now.held.bounded c.requires.grouped c.requires.i_lt_count)

pub slice_bounds-write_difference-end-2 : goal.slice_bounds-write_difference-end-2
slice_bounds-write_difference-end-2 c = from-inside (goal.at.slice_bounds-write_difference-end-2 c).After-joined_from

pub returns : goal.returns
unfolding group_symbol
returns c = let a = c.args in
    let size = a.self.now.here.symbol in
    let first = own_row a.self.now.here a.group a.i * size in
    let from = c.joined_from.result * size in
    let written : ℕ → ℕ → ℕ → List ℕ = λ m other n.
    lay (a.number * size) (less (sum_of a.self.now.op) (eqb a.group.messages 1) (cut first m a.self.now.answers.now) (cut other n a.self.now.answers.now))
    a.message.now in
    c.write_difference.ensures
    ∙ ap₂ (λ (m n : ℕ). written m from n) (add-sub_cancel_left first size) (add-sub_cancel_left from size)
    ∙ ap (λ (row : ℕ). written size (row * size) size) c.joined_from.ensures
