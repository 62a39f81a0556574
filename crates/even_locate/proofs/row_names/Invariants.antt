-- `even_locate::row_names` meets its contract: after p turns the cells of the set's messages from p on are left, and those before are not the one.
use mathlib.Core.Path.{◌≡◌}
use mathlib.Core.List.{zip}
use Prim.Native.Nat.{◌+◌, ◌≤◌}
use lib.ListN.{length, drop}
use Rattle.even_places.specs.Rule.{members}
use Rattle.even_sets.specs.Sets.{set_in}
use Rattle.even_layout.proofs.Bytes.{members_from}
use Rattle.scheme.specs.Asked.{times_in}
use Rattle.even_locate.proofs.row_names.Given as goal

abbrev pub invariant-loop-p : goal.invariant-loop-p
invariant-loop-p l =
    (l.taken + length (members_from l.k l.p l.rest) ≤ length l.numbers)
    × (times_in l.message l.symbol (zip (members_from l.k l.p l.rest) (drop l.taken l.numbers)) ≡ times_in l.message l.symbol (zip (members 0 (set_in l.k l.set)) l.numbers))
