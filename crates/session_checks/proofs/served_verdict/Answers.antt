-- `session_checks::served_verdict` meets its contract: the catalogue's verdict decides, else the day's, and else that on the server and the fields.
use mathlib.Core.Path.{refl, sym, ◌∙◌}
use Rattle.refusal.proofs.Passed.{passed}
use Rattle.refusal.specs.Verdicts.{accepted}
use Rattle.catalogue.specs.Catalogue.{Admitted}
use Rattle.catalogue.proofs.Faults.{after-catalogue, after-day}
use Rattle.session_checks.proofs.served_verdict.Goals as goal

pub returns-in_err-verdict : goal.returns-in_err-verdict
returns-in_err-verdict c = passed _ _ c.from_residual.ensures.1 ∙ after-catalogue c.args.c _ refl _ _ c.verdict.ensures (rw c.in_err-verdict.was)

pub returns-in_err-day_verdict : goal.returns-in_err-day_verdict
returns-in_err-day_verdict c = let admitted : Admitted c.args.c =
    sym c.verdict.ensures ∙ c.in_ok-verdict.was in
    let a = c.args in
    passed _ _ c.from_residual-in_err-day_verdict.ensures.1 ∙ after-day a.c a.today _ refl _ _ (admitted) c.day_verdict.ensures (rw c.in_err-day_verdict.was)

pub named_verdict-requires : goal.named_verdict-requires
named_verdict-requires c = let admitted : Admitted c.args.c =
    sym c.verdict.ensures ∙ c.in_ok-verdict.was in
    record {
      admitted = admitted;
      places_len = c.requires;
    }

pub returns : goal.returns
returns c = let admitted : Admitted c.args.c =
    sym c.verdict.ensures ∙ c.in_ok-verdict.was in
    let a = c.args in
    after-day a.c a.today _ refl accepted _ (admitted) (sym c.in_ok-day_verdict.was ∙ c.day_verdict.ensures)
    c.named_verdict.ensures
