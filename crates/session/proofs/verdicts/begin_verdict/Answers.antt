-- `session::verdicts::begin_verdict` meets its contract: its tests are the faults of the definition, in their order.
use mathlib.Core.Path.{refl, sym, ap, ◌∙◌}
use borrow.Author.Tests.{le-leb, lt-leb, eq-eqb, ne_eqb, not-true, not-false}
use Rattle.refusal.proofs.Passed.{passed}
use Rattle.parameters.specs.declared.Sizes.{Sizes}
use Rattle.refusal.specs.Verdicts.{accepted}
use Rattle.catalogue.specs.Catalogue.{Admitted}
use Rattle.catalogue.proofs.Faults.{after-catalogue}
use Rattle.codes.specs.Codes.{scheme_of}
use Rattle.session.specs.Calls.{begin_verdict}
use Rattle.session.proofs.Begin.{begin-accepted}
use Rattle.session.proofs.verdicts.begin_verdict.Goals as goal

pub returns-in_err-verdict : goal.returns-in_err-verdict
unfolding begin_verdict
returns-in_err-verdict c = passed _ _ c.from_residual.ensures.1 ∙ after-catalogue c.args.catalogue _ refl _ _ c.verdict.ensures (rw c.in_err-verdict.was)

pub returns-then-catalogue-wanted : goal.returns-then-catalogue-wanted
unfolding begin_verdict
returns-then-catalogue-wanted c = let admitted : Admitted c.args.catalogue =
    sym c.verdict.ensures ∙ c.in_ok-verdict.was in
    after-catalogue _ _ refl accepted _ (sym (admitted)) (rw (le-leb _ _ c.if-catalogue-wanted.true))

pub sizes_of-sizes-requires : goal.sizes_of-sizes-requires
sizes_of-sizes-requires c = let admitted : Admitted c.args.catalogue =
    sym c.verdict.ensures ∙ c.in_ok-verdict.was in
    admitted

pub returns-then-key-sizes : goal.returns-then-key-sizes
unfolding begin_verdict
returns-then-key-sizes c = let admitted : Admitted c.args.catalogue =
    sym c.verdict.ensures ∙ c.in_ok-verdict.was in
    after-catalogue _ _ refl accepted _ (sym (admitted))
    (rw (lt-leb _ _ c.if-catalogue-wanted.false, ← c.sizes_of-sizes.ensures, ne_eqb _ _ c.if-key-sizes.true))

pub key_good-requires : goal.key_good-requires
key_good-requires c = let admitted : Admitted c.args.catalogue =
    sym c.verdict.ensures ∙ c.in_ok-verdict.was in
    record {
      admitted = admitted;
      key_len = c.if-key-sizes.false ∙ ap (λ (sizes : Sizes). sizes.key) c.sizes_of-sizes.ensures;
    }

pub returns-then-not-key_good : goal.returns-then-not-key_good
unfolding begin_verdict
returns-then-not-key_good c = let admitted : Admitted c.args.catalogue =
    sym c.verdict.ensures ∙ c.in_ok-verdict.was in
    after-catalogue _ _ refl accepted _ (sym (admitted))
    (rw (
      lt-leb _ _ c.if-catalogue-wanted.false,
      sym c.key_good.ensures ∙ not-true _ c.if-not-key_good.true-raw,
      ← c.sizes_of-sizes.ensures,
      eq-eqb _ _ c.if-key-sizes.false,
    ))

pub returns : goal.returns
returns c = let admitted : Admitted c.args.catalogue =
    sym c.verdict.ensures ∙ c.in_ok-verdict.was in
    let args = c.args in
    sym (begin-accepted scheme_of args.catalogue args.wanted args.key.now (record {
      admitted = admitted;
      inside = c.if-catalogue-wanted.false;
      valid = record {
        long = c.if-key-sizes.false ∙ ap (λ (sizes : Sizes). sizes.key) c.sizes_of-sizes.ensures;
        good = sym c.key_good.ensures ∙ not-false _ c.if-not-key_good.false-raw;
      };
    }))
