-- `catalogue::sizes` meets its contract: a refusal is the verdict's, and an admitted catalogue's numbers are within their bounds.
use mathlib.Core.Path.{sym, ap, ◌∙◌}
use Rattle.std.specs.Prelude.{Ok}
use Rattle.refusal.proofs.Passed.{passed}
use Rattle.catalogue.specs.Catalogue.{measured_of}
use Rattle.catalogue.proofs.Admitted.{admitted-fits}
use Rattle.catalogue.proofs.sizes.Goals as goal

pub returns-in_err-verdict : goal.returns-in_err-verdict
unfolding measured_of
returns-in_err-verdict c = passed _ _ c.from_residual.ensures.1 ∙ simp (sym c.verdict.ensures ∙ c.in_err-verdict.was)

pub sizes_of-requires : goal.sizes_of-requires
sizes_of-requires c = admitted-fits c.args.c (sym c.verdict.ensures ∙ c.in_ok-verdict.was)

pub returns : goal.returns
unfolding measured_of
returns c = ap Ok c.sizes_of.ensures ∙ simp (sym c.verdict.ensures ∙ c.in_ok-verdict.was)
