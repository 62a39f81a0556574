-- `session_checks::held::Held::history_verdict` meets its contract: its two tests are the definition's.
use mathlib.Core.Path.{sym, ◌∙◌}
use borrow.Author.Tests.{not-true, not-false}
use Rattle.session_checks.proofs.held.Held.history_verdict.Goals as goal

pub returns-then-not-marks_good : goal.returns-then-not-marks_good
returns-then-not-marks_good c = rw (sym c.marks_good.ensures ∙ not-true _ c.if-not-marks_good.true-raw)

pub meters_good-requires : goal.meters_good-requires
meters_good-requires c = let pre = c.requires in
    record { checked = c.requires; taken_value = sym c.marks_good.ensures ∙ not-false _ c.if-not-marks_good.false-raw }

pub returns-then-not-meters_good : goal.returns-then-not-meters_good
returns-then-not-meters_good c = rw (sym c.marks_good.ensures ∙ not-false _ c.if-not-marks_good.false-raw, sym c.meters_good.ensures ∙ not-true _ c.if-not-meters_good.true-raw)

pub returns : goal.returns
returns c = rw (sym c.marks_good.ensures ∙ not-false _ c.if-not-marks_good.false-raw, sym c.meters_good.ensures ∙ not-false _ c.if-not-meters_good.false-raw)
