-- `short_rows::answering::Messages::answer` meets its contract: nothing is written for the row of zeros, and of any other row the total is gathered.
use mathlib.Core.Path.{◌≡◌, sym, ap, ◌∙◌}
use mathlib.Core.Bool.{true, false}
use mathlib.Core.List.{List}
use Prim.Native.Nat.{ℕ, ◌≤◌}
use native.Mathlib.Omega.{arith}
use lib.ListN.{length, take}
use lib.Seq.{length-take-le}
use Rattle.lists.specs.Parts.{put}
use Rattle.lists.specs.Below.{Below}
use Rattle.symbol.specs.Operations.{sum_of}
use Rattle.symbol.proofs.Operations.{group_of}
use Rattle.short_scheme.specs.Short.{all_zero, short_answer_length}
use Rattle.short_scheme.proofs.ZeroRow.{length_none, length_some, room-some, answer-none}
use Rattle.short_rows.proofs.Gathering.{gathered-answer}
use Rattle.short_rows.proofs.answering.Messages.answer.Goals as goal

pub returns-then-empty : goal.returns-then-empty
returns-then-empty c =
    let a = c.args in
    let none : all_zero a.row.now ≡ true = sym c.if-empty.ensures in record {
      value = sym (length_none a.self.now.size a.row.now none);
      out_after = ap (λ (l : List ℕ). put 0 l a.out.now) (sym (answer-none (sum_of a.self.now.op) a.self.now.first a.self.now.stride a.self.now.size a.store.now a.row.now none));
    }

-- there is room for a symbol where the row is not all zeros
part : (s : ℕ) (row out : List ℕ) → false ≡ all_zero row → short_answer_length s row ≤ length out → length (take s out) ≡ s
part s row out some room = length-take-le s out (room-some s row (length out) (sym some) room)

pub slice_bounds-gather-end : goal.slice_bounds-gather-end
slice_bounds-gather-end c = room-some c.args.self.now.size c.args.row.now (length c.args.out.now) (sym c.if-empty.ensures) c.requires.row_in_bounds

pub slice_bounds-gather-end-2 : goal.slice_bounds-gather-end-2
slice_bounds-gather-end-2 c = sym (part c.args.self.now.size c.args.row.now c.args.out.now c.if-empty.ensures c.requires.row_in_bounds)

pub gather-requires-clause-out_len : goal.gather-requires-clause-out_len
gather-requires-clause-out_len c = part c.args.self.now.size c.args.row.now c.args.out.now c.if-empty.ensures c.requires.row_in_bounds

pub returns : goal.returns
returns c =
    let a = c.args in
    let bytes : Below 256 a.store.now = λ i h. omega (arith, c.type_inv.store i) in
    let some : all_zero a.row.now ≡ false = sym c.if-empty.ensures in record {
      value = sym (length_some a.self.now.size a.row.now some);
      out_after = gathered-answer (sum_of a.self.now.op) a.self.now.stride a.self.now.size a.store.now (group_of a.self.now.op a.self.now.size) bytes
          a.self.now.first a.row.now (take a.self.now.size a.out.now) a.out.now c.requires.row_stored some c.gather.ensures
          (c.gather.auto.out ∙ part a.self.now.size a.row.now a.out.now c.if-empty.ensures c.requires.row_in_bounds);
    }
