-- `printing::checks::check` meets its contract: the catalogue is refused, or its sizes say what is due.
use mathlib.Core.Path.{ap, ◌∙◌}
use Rattle.codes.specs.Codes.{scheme_of}
use Rattle.printing.specs.Steps.{value_by}
use Rattle.printing.proofs.Answers.{check-chain, check-refused}
use Rattle.codes.proofs.Measured.{measured, unmeasured}
use Rattle.printing.proofs.checks.check.Goals as goal
use Rattle.refusal.proofs.Passed.{passed}
use Rattle.refusal.specs.Verdicts.{Verdict}

pub returns : goal.returns
returns c = let a = c.args in
    let m = measured a.c _ _ c.sizes.ensures c.in_ok-sizes.was in
    c.check_key.ensures
    ∙ rw m.1 (ap (λ (v : Verdict). value_by v (scheme_of a.c).sizes.query) (check-chain scheme_of a.c a.wanted m.0 a.count a.bytes))

pub returns-in_err-sizes : goal.returns-in_err-sizes
returns-in_err-sizes c = let a = c.args in
    let m = unmeasured a.c _ _ c.sizes.ensures c.in_err-sizes.was in
    passed _ _ c.from_residual.ensures.1 ∙ rw (← check-refused scheme_of a.c a.wanted _ m a.count a.bytes)
