-- `even_layout::first_rows` meets its contract: before each turn the first rows of the sets from its own on are still to be written.
use mathlib.Core.Path.{◌≡◌}
use Prim.Native.Nat.{◌*◌, ◌≤◌}
use lib.ListN.{drop}
use Rattle.even_places.specs.Rule.{all_sets}
use Rattle.even_layout.proofs.Firsts.{filled}
use Rattle.even_layout.proofs.first_rows.Given as goal

abbrev pub invariant-loop-set : goal.invariant-loop-set
invariant-loop-set l =
    (l.row ≤ 256 * l.set-index) × (filled l.n l.row (drop l.set-index (all_sets l.k)) l.firsts ≡ filled l.n 0 (all_sets l.k) l.initial.firsts)
