-- `even_ranks::counters_of` meets its contract: the shifted byte's lowest bit says whether the set has the wanted message.
use native.Mathlib.Omega.{arith}
use borrow.Author.Tests.{eq-eqb, ne_eqb}
use Rattle.lists.specs.Sums.{bit}
use Rattle.even_ranks.specs.Counts.{counter}
use Rattle.even_ranks.proofs.counters_of.Goals as goal

pub returns-then-set-wanted-eq1 : goal.returns-then-set-wanted-eq1
unfolding counter bit
returns-then-set-wanted-eq1 c = rw (eq-eqb _ 1 c.if-set-wanted-eq1.true) (omega arith)

pub returns : goal.returns
unfolding counter bit
returns c = rw (ne_eqb _ 1 c.if-set-wanted-eq1.false) (omega arith)
