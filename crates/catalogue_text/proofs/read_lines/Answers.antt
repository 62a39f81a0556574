-- `catalogue_text::read_lines` meets its contract: the lines, then the catalogue's own verdict.
use mathlib.Core.Path.{sym, ◌∙◌}
use Rattle.catalogue_text.proofs.Faults.{lines-is}
use Rattle.catalogue_text.proofs.read_lines.Goals as goal

pub returns-in-Err : goal.returns-in-Err
returns-in-Err c = c.refused.ensures ∙ sym (lines-is _ ∙ simp (sym c.catalogue_lines-found.ensures, c.in-Err.is))

pub returns-in-Err-verdict : goal.returns-in-Err-verdict
returns-in-Err-verdict c = c.refused-in-Err-verdict.ensures
    ∙ sym (lines-is _ ∙ simp (
      sym c.catalogue_lines-found.ensures,
      c.in_default.is,
      sym c.verdict.ensures ∙ c.in-Err-verdict.is,
    ))

pub returns : goal.returns
returns c = sym (lines-is _ ∙ simp (sym c.catalogue_lines-found.ensures, c.in_default.is, sym c.verdict.ensures ∙ c.in_default-verdict.is))
