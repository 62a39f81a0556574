-- `correction::corrected` meets its contract: it asks for the verdict before it writes, and an accepted one says all that the steps need.
use mathlib.Core.Path.{sym, ◌∙◌}
use native.Mathlib.Omega.{arith}
use lib.ListN.{length}
use Rattle.refusal.proofs.Passed.{passed}
use Rattle.correction.proofs.Verdicts.{correct-passed, inside_of}
use Rattle.correction.proofs.Calls.{answer-refused, answer-done, place_inside, answer-made}
use Rattle.correction.proofs.corrected.Goals as goal

pub returns-in_err-verdict-clause-did : goal.returns-in_err-verdict-clause-did
returns-in_err-verdict-clause-did c = let a = c.args in
    rw (passed _ _ c.from_residual.ensures.1)
    (answer-refused a.c a.server a.store.now a.query.now a.edit a.answer.now c.verdict.result c.verdict.ensures c.in_err-verdict.field-0.0 c.in_err-verdict.was)

pub place_of-place-requires : goal.place_of-place-requires
place_of-place-requires c = let a = c.args in
    let p = correct-passed a.c a.server (length a.store.now) a.query.now a.edit (length a.answer.now) (sym c.verdict.ensures ∙ c.in_ok-verdict.was) in
    record { admitted = p.admitted; edit_in = inside_of a.c a.edit p.inside }

pub bounds-store-place : goal.bounds-store-place
bounds-store-place c = let a = c.args in
    let p = correct-passed a.c a.server (length a.store.now) a.query.now a.edit (length a.answer.now) (sym c.verdict.ensures ∙ c.in_ok-verdict.was) in
    omega (arith, c.place_of-place.ensures, place_inside a.c a.edit p.admitted (inside_of a.c a.edit p.inside), p.store_long)

pub update-requires : goal.update-requires
update-requires c = let a = c.args in
    let p = correct-passed a.c a.server (length a.store.now) a.query.now a.edit (length a.answer.now) (sym c.verdict.ensures ∙ c.in_ok-verdict.was) in
    record {
      admitted = p.admitted;
      query_value = p.admits;
      edit_in = inside_of a.c a.edit p.inside;
      answer_len = p.saved-long;
    }

pub returns-clause-did : goal.returns-clause-did
returns-clause-did c = let a = c.args in
    answer-done a.c a.server a.store.now a.query.now a.edit a.answer.now c.verdict.result c.verdict.ensures _ c.in_ok-verdict.was
    (c.update.ensures ∙ answer-made a.c a.edit a.store.now a.query.now a.answer.now c.place_of-place.result c.place_of-place.ensures)
