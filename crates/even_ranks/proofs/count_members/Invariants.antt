-- `even_ranks::count_members` meets its contract: after p turns the counters from p on are still to be counted.
use mathlib.Core.Path.{◌≡◌}
use Prim.Native.Nat.{ℕ, ◌≤◌}
use lib.ListN.{length, get_or}
use Rattle.even_places.specs.Rule.{after}
use Rattle.even_sets.specs.Sets.{set_in}
use Rattle.even_ranks.proofs.Steps.{counts_from}
use Rattle.even_ranks.proofs.count_members.Given as goal

abbrev pub invariant-loop-count : goal.invariant-loop-count
invariant-loop-count l =
    ((i : ℕ) → l.count-index ≤ i → get_or l.counts i 0 ≡ get_or l.initial.counts i 0)
    × (counts_from (length l.initial.counts) l.count-index l.rest l.counts ≡ after (set_in (length l.initial.counts) l.set) l.initial.counts)
