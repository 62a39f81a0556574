-- `length_text::length_lines` meets its contract: where a line begins, those that are counted are there, and no further one.
use mathlib.Core.Path.{sym, ◌∙◌}
use Rattle.length_text.specs.LengthLines.{length_lines}
use Rattle.length_text.proofs.length_lines.Goals as goal

pub returns-then-not-line_begins : goal.returns-then-not-line_begins
unfolding length_lines
returns-then-not-line_begins c = rw (sym c.line_begins.ensures ∙ c.if-not-line_begins.true, c.none.ensures)

pub returns-in_err-found : goal.returns-in_err-found
unfolding length_lines
returns-in_err-found c =
    rw (sym c.line_begins.ensures ∙ c.if-not-line_begins.false, sym c.counted.ensures ∙ c.in_err-found.was) c.from_residual.ensures

pub returns-then-line_begins : goal.returns-then-line_begins
unfolding length_lines
returns-then-line_begins c =
    rw (
      sym c.line_begins.ensures ∙ c.if-not-line_begins.false,
      sym c.counted.ensures ∙ c.in_ok-found.was,
      sym c.line_begins-2.ensures ∙ c.if-line_begins.true,
    )

pub returns : goal.returns
unfolding length_lines
returns c =
    rw (
      sym c.line_begins.ensures ∙ c.if-not-line_begins.false,
      sym c.counted.ensures ∙ c.in_ok-found.was,
      sym c.line_begins-2.ensures ∙ c.if-line_begins.false,
    )
