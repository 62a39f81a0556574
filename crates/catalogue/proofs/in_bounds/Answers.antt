-- `catalogue::in_bounds` meets its contract: the bounds of the numbers, then those of the dates, then those of the lengths.
use mathlib.Core.Path.{sym, ap, ◌∙◌}
use borrow.Author.Tests.{not-true, not-false}
use Rattle.parameters.specs.declared.Sizes.{Sizes}
use Rattle.lengths.specs.Lengths.{lengths_fit}
use Rattle.catalogue.proofs.in_bounds.Goals as goal

pub returns-then-not-numbers_fit : goal.returns-then-not-numbers_fit
returns-then-not-numbers_fit c = rw (sym c.numbers_fit.ensures ∙ not-true _ c.if-not-numbers_fit.true-raw)

pub returns-then-not-dates_fit : goal.returns-then-not-dates_fit
returns-then-not-dates_fit c = rw (
  sym c.numbers_fit.ensures ∙ not-false _ c.if-not-numbers_fit.false-raw,
  sym c.dates_fit.ensures ∙ not-true _ c.if-not-dates_fit.true-raw,
)

pub sizes_of-sizes-requires : goal.sizes_of-sizes-requires
sizes_of-sizes-requires c = sym c.numbers_fit.ensures ∙ not-false _ c.if-not-numbers_fit.false-raw

pub returns : goal.returns
returns c = let at = c.args.c in
    rw (
      sym c.numbers_fit.ensures ∙ not-false _ c.if-not-numbers_fit.false-raw,
      sym c.dates_fit.ensures ∙ not-false _ c.if-not-dates_fit.false-raw,
    )
    (c.fit.ensures ∙ ap (λ (s : Sizes). lengths_fit at.messages s.message at.lengths) c.sizes_of-sizes.ensures)
