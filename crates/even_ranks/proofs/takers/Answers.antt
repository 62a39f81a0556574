-- `even_ranks::takers` meets its contract: it reads the counter of p among the sets with the wanted message, if p is that, or those without it.
use Prim.Native.Nat.{ℕ}
use native.Mathlib.Omega.{arith}
use mathlib.Core.Path.{ap}
use borrow.Author.Tests.{eq-eqb, ne_eqb}
use lib.ListN.{get_or}
use Rattle.lists.specs.Sums.{bit}
use Rattle.even_ranks.specs.Counts.{counter, takers}
use Rattle.even_ranks.proofs.takers.Goals as goal

pub returns-then-p-wanted : goal.returns-then-p-wanted
unfolding takers counter bit
returns-then-p-wanted c = let at = c.args in
    rw (eq-eqb at.p at.wanted c.if-p-wanted.true) (ap (λ (i : ℕ). get_or at.totals.now i 0) (omega arith))

pub returns : goal.returns
unfolding takers counter bit
returns c = let at = c.args in
    rw (ne_eqb at.p at.wanted c.if-p-wanted.false) (ap (λ (i : ℕ). get_or at.totals.now i 0) (omega arith))
