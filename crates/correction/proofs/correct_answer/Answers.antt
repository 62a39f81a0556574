-- `correction::correct_answer` meets its contract: it is `corrected`, of which the place is left.
use Rattle.refusal.proofs.Passed.{passed}
use Rattle.correction.proofs.correct_answer.Goals as goal

pub returns-in_err-corrected : goal.returns-in_err-corrected
returns-in_err-corrected c = rw (passed _ _ c.from_residual.ensures.1) (rw c.in_err-corrected.was at c.corrected.ensures.did)

pub returns : goal.returns
returns c = rw c.in_ok-corrected.was at c.corrected.ensures.did
