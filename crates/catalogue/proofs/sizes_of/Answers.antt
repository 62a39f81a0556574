-- `catalogue::sizes_of` meets its contract: the sizes are those of the catalogue's code.
use mathlib.Core.Path.{◌∙◌}
use Rattle.catalogue.specs.Catalogue.{sizes_of}
use Rattle.catalogue.proofs.sizes_of.Goals as goal

pub sizes-requires : goal.sizes-requires
sizes-requires c = rw c.in-Short.is at c.requires

pub sizes-requires-in-Even : goal.sizes-requires-in-Even
sizes-requires-in-Even c = rw c.in-Even.is at c.requires

pub sizes-requires-in-Turn : goal.sizes-requires-in-Turn
sizes-requires-in-Turn c = rw c.in-Turn.is at c.requires

pub sizes-requires-in-Round : goal.sizes-requires-in-Round
sizes-requires-in-Round c = rw c.in-Round.is at c.requires

pub returns-in-Short : goal.returns-in-Short
unfolding sizes_of
returns-in-Short c = c.sizes.ensures ∙ simp c.in-Short.is

pub returns-in-Even : goal.returns-in-Even
unfolding sizes_of
returns-in-Even c = c.sizes-in-Even.ensures ∙ simp c.in-Even.is

pub returns-in-Turn : goal.returns-in-Turn
unfolding sizes_of
returns-in-Turn c = c.sizes-in-Turn.ensures ∙ simp c.in-Turn.is

pub returns-in-Round : goal.returns-in-Round
unfolding sizes_of
returns-in-Round c = c.sizes-in-Round.ensures ∙ simp c.in-Round.is
