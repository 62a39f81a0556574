-- `catalogue::day_verdict` meets its contract: without dates no link is there, and else the chain's links are the test of a real day, then that of
-- the season.
use mathlib.Core.Path.{sym, ◌∙◌}
use borrow.Author.Tests.{not-true, not-false}
use Rattle.catalogue.proofs.Faults.{day-chain}
use Rattle.catalogue.proofs.day_verdict.Goals as goal

pub returns-then-are_none : goal.returns-then-are_none
returns-then-are_none c = let a = c.args in rw (day-chain a.c a.today, sym c.are_none.ensures ∙ c.if-are_none.true)

pub returns-then-not-is_real : goal.returns-then-not-is_real
returns-then-not-is_real c = let a = c.args in
    rw (
      day-chain a.c a.today,
      sym c.are_none.ensures ∙ c.if-are_none.false,
      sym c.is_real.ensures ∙ not-true _ c.if-not-is_real.true-raw,
    )

pub returns-then-in_season : goal.returns-then-in_season
returns-then-in_season c = let a = c.args in
    rw (
      day-chain a.c a.today,
      sym c.are_none.ensures ∙ c.if-are_none.false,
      sym c.is_real.ensures ∙ not-false _ c.if-not-is_real.false-raw,
      sym c.in_season.ensures ∙ c.if-in_season.true,
    )

pub returns : goal.returns
returns c = let a = c.args in
    rw (
      day-chain a.c a.today,
      sym c.are_none.ensures ∙ c.if-are_none.false,
      sym c.is_real.ensures ∙ not-false _ c.if-not-is_real.false-raw,
      sym c.in_season.ensures ∙ c.if-in_season.false,
    )
