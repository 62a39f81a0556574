-- `number_lists::put_after_spaces` meets its contract: after i turns the first i numbers stand side by side.
use mathlib.Core.Path.{◌≡◌}
use Prim.Native.Nat.{◌+◌, ◌*◌, ◌≤◌}
use lib.ListN.{length, take}
use Rattle.lists.specs.Parts.{put}
use Rattle.number_lists.specs.NumberLists.{after_spaces}
use Rattle.number_lists.proofs.put_after_spaces.Given as goal

abbrev pub invariant-loop-n : goal.invariant-loop-n
invariant-loop-n l =
    (l.at ≡ l.start + length (after_spaces (take l.n-index l.numbers))) × (l.at ≤ l.start + 4 * l.n-index)
    × (l.out ≡ put l.start (after_spaces (take l.n-index l.numbers)) l.initial.out)
    × (length l.out ≡ length l.initial.out)
