-- `session_checks::fields_verdict` meets its contract: it makes the two tests of the definition.
use mathlib.Core.Path.{sym, ◌∙◌}
use borrow.Author.Tests.{le-leb, lt-leb, not-true, not-false}
use Rattle.session_checks.proofs.fields_verdict.Goals as goal

pub returns-then-c-wanted : goal.returns-then-c-wanted
returns-then-c-wanted c = rw (le-leb _ _ c.if-c-wanted.true)

pub returns-then-not-key_good : goal.returns-then-not-key_good
returns-then-not-key_good c = rw (lt-leb _ _ c.if-c-wanted.false, sym c.key_good.ensures ∙ not-true _ c.if-not-key_good.true-raw)

pub returns : goal.returns
returns c = rw (lt-leb _ _ c.if-c-wanted.false, sym c.key_good.ensures ∙ not-false _ c.if-not-key_good.false-raw)
