-- `correction::correct` meets its contract: the answer is moved by `corrected`, and accepted, the edit's byte is in the store.
use mathlib.Core.Path.{ap, ◌∙◌}
use Prim.Native.Nat.{ℕ}
use native.Mathlib.Omega.{arith}
use lib.ListN.{length, set}
use Rattle.refusal.proofs.Passed.{passed}
use Rattle.correction.specs.Calls.{verdict_of}
use Rattle.correction.proofs.Verdicts.{correct-passed, inside_of}
use Rattle.correction.proofs.Calls.{answer-verdict, refused-alike, done-alike, place_inside}
use Rattle.correction.proofs.correct.Goals as goal

pub returns-in_err-place : goal.returns-in_err-place
returns-in_err-place c = let a = c.args in
    rw (passed _ _ c.from_residual.ensures.1)
    (refused-alike a.c a.server a.store.now a.query.now a.edit a.answer.now _ _ _ c.corrected.ensures.did _ (ap verdict_of c.in_err-place.was))

pub bounds-store-place : goal.bounds-store-place
bounds-store-place c = let a = c.args in
    let verdict = answer-verdict a.c a.server a.store.now a.query.now a.edit a.answer.now _ _ _ c.corrected.ensures.did in
    let p = correct-passed a.c a.server (length a.store.now) a.query.now a.edit (length a.answer.now) (verdict ∙ ap verdict_of c.in_ok-place.was) in
    omega (arith, c.corrected.ensures.place _ c.in_ok-place.was, place_inside a.c a.edit p.admitted (inside_of a.c a.edit p.inside), p.store_long)

pub returns : goal.returns
returns c = let a = c.args in
    done-alike a.c a.server a.store.now a.query.now a.edit a.answer.now _ _ _ c.corrected.ensures.did _ (ap verdict_of c.in_ok-place.was)
    (ap (λ (n : ℕ). set a.store.now n a.edit.value) (c.corrected.ensures.place _ c.in_ok-place.was))
