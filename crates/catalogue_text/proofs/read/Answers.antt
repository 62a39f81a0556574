-- `catalogue_text::read` meets its contract: the lines, then the end of the text, then the catalogue's own verdict.
use mathlib.Core.Path.{sym, ◌∙◌}
use borrow.Author.Tests.{eq-eqb, ne_eqb}
use Rattle.catalogue_text.proofs.Faults.{read_is}
use Rattle.catalogue_text.proofs.read.Goals as goal

pub returns-in-Err : goal.returns-in-Err
returns-in-Err c = c.refused_reading.ensures ∙ sym (read_is _ ∙ simp (sym c.catalogue_lines-found.ensures, c.in-Err.is))

pub returns-then-found-end : goal.returns-then-found-end
returns-then-found-end c = c.refused_reading-then-found-end.ensures
    ∙ sym (read_is _ ∙ simp (sym c.catalogue_lines-found.ensures, c.in_default.is, ne_eqb _ _ c.if-found-end.true))

pub returns-in-Err-verdict : goal.returns-in-Err-verdict
returns-in-Err-verdict c = c.refused_reading-in-Err-verdict.ensures
    ∙ sym (read_is _ ∙ simp (
      sym c.catalogue_lines-found.ensures,
      c.in_default.is,
      eq-eqb _ _ c.if-found-end.false,
      sym c.verdict.ensures ∙ c.in-Err-verdict.is,
    ))

pub returns : goal.returns
returns c = sym (read_is _ ∙ simp (
  sym c.catalogue_lines-found.ensures,
  c.in_default.is,
  eq-eqb _ _ c.if-found-end.false,
  sym c.verdict.ensures ∙ c.in_default-verdict.is,
))
