-- `Answered::from_group` meets its contract: after i turns the parts of the first i rows are written.
use mathlib.Core.Path.{◌≡◌, sym, ap, ap₂, ◌∙◌}
use mathlib.Core.List.{List, map}
use Prim.Native.Nat.{ℕ, ◌*◌}
use native.Mathlib.Nat.{zero-mul, add-mul, one-mul}
use native.Mathlib.Omega.{arith}
use lib.ListN.{get_or}
use Rattle.lists.specs.Parts.{lay}
use Rattle.lists.specs.Ranges.{range}
use Rattle.symbol.specs.Operations.{sum_of}
use Rattle.lists.specs.Assembled.{lay_all}
use Rattle.even_recover.specs.Rows.{group_symbol, group_part, group_parts}
use Rattle.lists.proofs.Assembled.{assemble-none, assemble-part}
use Rattle.even_recover.proofs.Answered.from_group.Goals as goal

pub loop-i-init : goal.loop-i-init
loop-i-init c = let at = c.args in (
  omega (arith, zero-mul at.group.messages),
  assemble-none lay (group_part (sum_of at.self.now.op) at.self.now.here at.group at.self.now.query.now at.self.now.answers.now) at.message.now,
)

pub loop-i-preserved : goal.loop-i-preserved
unfolding group_part
loop-i-preserved c = let at = c.args in
    let part = group_part (sum_of at.self.now.op) at.self.now.here at.group at.self.now.query.now at.self.now.answers.now in
    let symbol = group_symbol (sum_of at.self.now.op) at.self.now.here at.group at.self.now.answers.now c.loop-i.i in (
      omega (arith, c.loop-i.invariant.0, add-mul c.loop-i.i 1 at.group.messages, one-mul at.group.messages),
      c.from_row.ensures
          ∙ ap₂ (λ (cell : ℕ) (l : List ℕ). lay (get_or at.self.now.query.now cell 0 * at.self.now.here.symbol) symbol l) c.loop-i.invariant.0 c.loop-i.invariant.1
          ∙ sym (assemble-part lay part c.loop-i.i at.message.now),
    )

pub returns : goal.returns
unfolding group_parts
returns c = let at = c.args in
    let done : c.loop-i.i ≡ at.group.count = omega arith in
    let part = group_part (sum_of at.self.now.op) at.self.now.here at.group at.self.now.query.now at.self.now.answers.now in
    c.loop-i.invariant.1 ∙ ap (λ (i : ℕ). lay_all (map part (range 0 i)) at.message.now) done
