-- `catalogue_text::write` meets its contract: the catalogue's own verdict, then the room, then the text.
use mathlib.Core.Path.{refl, sym, ◌∙◌}
use borrow.Author.Tests.{lt-ltb, le-ltb}
use Rattle.refusal.proofs.Passed.{passed}
use Rattle.refusal.specs.Verdicts.{accepted}
use Rattle.catalogue.specs.Catalogue.{Admitted}
use Rattle.catalogue.proofs.Faults.{after-catalogue}
use Rattle.catalogue_text.specs.Writing.{write_verdict}
use Rattle.catalogue_text.proofs.Faults.{wrote-refused, wrote-text}
use Rattle.catalogue_text.proofs.write.Goals as goal

pub returns-in_err-verdict : goal.returns-in_err-verdict
unfolding write_verdict
returns-in_err-verdict c = let args = c.args in
    rw (passed _ _ c.from_residual.ensures.1)
    (wrote-refused args.c args.out.now _ (after-catalogue args.c _ refl _ _ c.verdict.ensures (rw c.in_err-verdict.was)))

pub returns-then-out-text_length : goal.returns-then-out-text_length
unfolding write_verdict
returns-then-out-text_length c = let admitted : Admitted c.args.c =
    sym c.verdict.ensures ∙ c.in_ok-verdict.was in
    let args = c.args in
    let short = lt-ltb _ _ (rw c.text_length.ensures at c.if-out-text_length.true) in
    wrote-refused args.c args.out.now _ (after-catalogue args.c _ refl accepted _ (sym (admitted)) (rw short))

pub returns : goal.returns
unfolding write_verdict
returns c = let admitted : Admitted c.args.c =
    sym c.verdict.ensures ∙ c.in_ok-verdict.was in
    let args = c.args in
    let long = le-ltb _ _ (rw c.text_length.ensures at c.if-out-text_length.false) in
    let written = c.put_text.ensures in
    wrote-text args.c args.out.now _ _ (after-catalogue args.c _ refl accepted _ (sym (admitted)) (rw long)) c.put_text.ensures.value c.put_text.ensures.out_after
