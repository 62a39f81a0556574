-- `session_checks::session_verdict` meets its contract: the catalogue's verdict decides, and else that on the fields.
use mathlib.Core.Path.{refl, sym, ◌∙◌}
use Rattle.refusal.proofs.Passed.{passed}
use Rattle.refusal.specs.Verdicts.{accepted}
use Rattle.catalogue.specs.Catalogue.{Admitted}
use Rattle.catalogue.proofs.Faults.{after-catalogue}
use Rattle.session_checks.proofs.session_verdict.Goals as goal

pub returns-in_err-verdict : goal.returns-in_err-verdict
returns-in_err-verdict c = passed _ _ c.from_residual.ensures.1 ∙ after-catalogue c.args.c _ refl _ _ c.verdict.ensures (rw c.in_err-verdict.was)

pub fields_verdict-requires : goal.fields_verdict-requires
fields_verdict-requires c = let admitted : Admitted c.args.c =
    sym c.verdict.ensures ∙ c.in_ok-verdict.was in
    record {
      admitted = admitted;
      places_len = c.requires;
    }

pub returns : goal.returns
returns c = let admitted : Admitted c.args.c =
    sym c.verdict.ensures ∙ c.in_ok-verdict.was in
    after-catalogue _ _ refl accepted _ (sym (admitted)) c.fields_verdict.ensures
