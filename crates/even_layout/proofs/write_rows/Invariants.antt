-- `even_layout::write_rows` meets its contract: before each turn as many rows are still to be written as turns are left.
use mathlib.Core.List.{List, flat_map}
use Prim.Native.Nat.{ℕ, ◌-◌}
use lib.ListN.{replicate}
use Rattle.lists.proofs.Writing.{Pending}
use Rattle.even_places.specs.Rule.{members}
use Rattle.even_sets.specs.Sets.{set_in}
use Rattle.even_layout.proofs.write_rows.Given as goal

abbrev pub row_members : ℕ → ℕ → ℕ → List ℕ
row_members k set count = flat_map (members 0) (replicate count (set_in k set))

abbrev pub invariant-loop : goal.invariant-loop
invariant-loop l = Pending l.at (row_members l.k l.set l.count) l.initial.out l.end (row_members l.k l.set (l.count - l.counter)) l.out
