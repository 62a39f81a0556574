-- `even_query::Walk::write_sets` meets its contract: before each turn the places of the sets from its own on are still to be written, by the counts so far.
use mathlib.Core.Path.{◌≡◌}
use Prim.Native.Nat.{suc}
use lib.ListN.{length, drop}
use Rattle.lists.specs.Below.{Below}
use Rattle.lists.proofs.Writing.{Pending}
use Rattle.even_places.specs.Rule.{all_sets}
use Rattle.even_ranks.specs.Counts.{no_counts}
use Rattle.even_ranks.specs.Walk.{sets_places}
use Rattle.even_query.proofs.Walk.write_sets.Given as goal

abbrev pub invariant-loop-set : goal.invariant-loop-set
invariant-loop-set l =
    (length l.counts ≡ 128)
    × Below (suc l.set-index) l.counts
    × Below 256 (sets_places l.self.servers l.self.wanted l.self.server l.self.totals.now l.counts (drop l.set-index (all_sets l.self.messages)))
    × Pending 0 (sets_places l.self.servers l.self.wanted l.self.server l.self.totals.now no_counts (all_sets l.self.messages)) l.initial.out l.end
    (sets_places l.self.servers l.self.wanted l.self.server l.self.totals.now l.counts (drop l.set-index (all_sets l.self.messages))) l.out
