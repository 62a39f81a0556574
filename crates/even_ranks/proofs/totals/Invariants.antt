-- `even_ranks::totals` meets its contract: before each turn the sets from its own on are still to be counted.
use mathlib.Core.Path.{◌≡◌}
use Prim.Native.Nat.{suc}
use lib.ListN.{length, drop}
use Rattle.lists.specs.Below.{Below}
use Rattle.even_places.specs.Rule.{all_sets}
use Rattle.even_ranks.specs.Counts.{counted_all, totals_of}
use Rattle.even_ranks.proofs.totals.Given as goal

abbrev pub invariant-loop-set : goal.invariant-loop-set
invariant-loop-set l =
    (length l.counts ≡ 128) × Below (suc l.set-index) l.counts × (counted_all l.wanted (drop l.set-index (all_sets l.k)) l.counts ≡ totals_of l.k l.wanted)
