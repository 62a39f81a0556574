-- `catalogue::numbers_fit` meets its contract: the bounds are those of the catalogue's code.
use mathlib.Core.Path.{◌∙◌}
use Rattle.catalogue.proofs.numbers_fit.Goals as goal

pub returns-in-Short : goal.returns-in-Short
returns-in-Short c = c.fits.ensures ∙ simp c.in-Short.is

pub returns-in-Even : goal.returns-in-Even
returns-in-Even c = c.fits-in-Even.ensures ∙ simp c.in-Even.is

pub returns-in-Turn : goal.returns-in-Turn
returns-in-Turn c = c.fits-in-Turn.ensures ∙ simp c.in-Turn.is

pub returns-in-Round : goal.returns-in-Round
returns-in-Round c = c.fits-in-Round.ensures ∙ simp c.in-Round.is
