-- `fit` meets its contract: the places so far may hold what they hold.
use Rattle.std.proofs.Common.{◌≡◌, true, get_or}
use Rattle.lists.specs.Ranges.{every}
use Rattle.lengths.specs.Lengths.{place_fits}
use Rattle.lengths.proofs.fit.Given as goal

abbrev pub invariant-loop-place : goal.invariant-loop-place
invariant-loop-place l = every l.place (λ place. place_fits l.fn.l.given l.k l.whole place (get_or l.fn.l.places place 0)) ≡ true
