-- `correction::update` meets its contract: only the part that answers the row which names the symbol is lent, and it is moved.
use mathlib.Core.Path.{sym, ap, ◌∙◌}
use Prim.Native.Nat.{ℕ, ◌+◌, ◌≤◌}
use native.Mathlib.Omega.{arith}
use lib.ListN.{length}
use Rattle.symbol.specs.Operations.{sum_of}
use Rattle.std.specs.Prelude.{Option}
use Rattle.correction.specs.Moved.{shift_of, moved}
use Rattle.codes.specs.Asked.{rows_of}
use Rattle.codes.proofs.Asks.{asks_of}
use Rattle.scheme.proofs.Places.{place-within}
use Rattle.correction.proofs.Calls.{part_moved}
use Rattle.correction.proofs.update.Goals as goal
use Rattle.correction.proofs.update.Goals.{In-Some}

-- the part is in the answer
inside : (c : In-Some) → c.in-Some.at + c.args.c.symbol ≤ length c.args.answer.now
inside c = let a = c.args in
    omega (
      arith,
      place-within a.c.symbol a.edit.message a.edit.symbol (rows_of a.c a.query.now) c.in-Some.at (sym c.locate.ensures ∙ c.in-Some.is),
      (asks_of a.c c.requires.admitted).lengths a.query.now,
      c.requires.answer_len,
    )

pub returns-in_default : goal.returns-in_default
unfolding moved
returns-in_default c = let a = c.args in
    let shift = shift_of (sum_of a.c.sum) a.c.symbol a.edit.byte a.edit.value a.old in
    sym (ap (λ (place : Option ℕ). moved (sum_of a.c.sum) a.c.symbol place shift a.answer.now)
    (sym c.locate.ensures ∙ c.in_default.is))

pub overflow_add-end : goal.overflow_add-end
overflow_add-end c = omega (arith, inside (goal.at.overflow_add-end c).In-Some)

pub slice_bounds-move_symbol-end : goal.slice_bounds-move_symbol-end
slice_bounds-move_symbol-end c = omega (arith, inside (goal.at.slice_bounds-move_symbol-end c).In-Some)

pub returns : goal.returns
returns c = let a = c.args in
    let shift = shift_of (sum_of a.c.sum) a.c.symbol a.edit.byte a.edit.value a.old in
    part_moved a.c.sum a.c.symbol c.in-Some.at a.edit.byte a.edit.value a.old a.answer.now _ (inside (goal.at.returns c).In-Some)
    c.move_symbol.ensures
    ∙ ap (λ (place : Option ℕ). moved (sum_of a.c.sum) a.c.symbol place shift a.answer.now) (sym (sym c.locate.ensures ∙ c.in-Some.is))
