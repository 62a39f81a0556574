-- `even_sets::ordered_sets` meets its contract: after i turns the sets from i on are still to be written.
use mathlib.Core.List.{map}
use lib.ListN.{drop}
use Rattle.lists.proofs.Writing.{Pending}
use Rattle.even_places.specs.Rule.{byte_of, all_sets}
use Rattle.even_sets.proofs.ordered_sets.Given as goal

abbrev pub invariant-loop-i : goal.invariant-loop-i
invariant-loop-i l = Pending 0 (map byte_of (all_sets l.k)) l.initial.sets l.i (drop l.i (map byte_of (all_sets l.k))) l.sets
