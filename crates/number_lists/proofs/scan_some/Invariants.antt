-- `number_lists::scan_some` meets its contract: after `count` numbers, those that are left decide.
use mathlib.Core.Path.{◌≡◌}
use Prim.Native.Nat.{◌-◌, ◌≤◌}
use lib.ListN.{length}
use Rattle.number_lists.specs.NumberLists.{numbers_from, scan_of}
use Rattle.number_lists.proofs.Scanning.{scan_left}
use Rattle.number_lists.proofs.scan_some.Given as goal

abbrev pub invariant-loop-at : goal.invariant-loop-at
invariant-loop-at l = (l.count ≤ l.at) × (scan_of (numbers_from (length l.text) l.text l.start) ≡ scan_left l.text l.at l.count l.bytes)

abbrev pub decreases-loop-at : goal.decreases-loop-at
decreases-loop-at l = length l.text - l.at
