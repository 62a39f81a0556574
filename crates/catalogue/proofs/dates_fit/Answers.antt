-- `catalogue::dates_fit` meets its contract: each test is a part of the rule.
use mathlib.Core.Path.{sym, ◌∙◌}
use borrow.Author.Tests.{not-true, not-false}
use Rattle.catalogue.specs.Catalogue.{dates_fit}
use Rattle.catalogue.proofs.dates_fit.Goals as goal

pub returns-then-are_none : goal.returns-then-are_none
unfolding dates_fit
returns-then-are_none c = simp (sym c.are_none.ensures ∙ c.if-are_none.true)

pub returns-then-not-is_real : goal.returns-then-not-is_real
unfolding dates_fit
returns-then-not-is_real c = simp (
  sym c.are_none.ensures ∙ c.if-are_none.false,
  sym c.is_real.ensures ∙ not-true _ c.if-not-is_real.true-raw,
)

pub returns-then-not-is_real-2 : goal.returns-then-not-is_real-2
unfolding dates_fit
returns-then-not-is_real-2 c = simp (
  sym c.are_none.ensures ∙ c.if-are_none.false,
  sym c.is_real.ensures ∙ not-false _ c.if-not-is_real.false-raw,
  sym c.is_real-2.ensures ∙ not-true _ c.if-not-is_real-2.true-raw,
)

pub returns : goal.returns
unfolding dates_fit
returns c = simp (
  sym c.are_none.ensures ∙ c.if-are_none.false,
  sym c.is_real.ensures ∙ not-false _ c.if-not-is_real.false-raw,
  sym c.is_real-2.ensures ∙ not-false _ c.if-not-is_real-2.false-raw,
  c.is_before.ensures,
)
