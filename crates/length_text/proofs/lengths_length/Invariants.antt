-- `length_text::lengths_length` meets its contract: after i turns the first i lines are counted, each of at most 18 bytes.
use mathlib.Core.Path.{◌≡◌}
use Prim.Native.Nat.{◌*◌, ◌≤◌}
use lib.ListN.{length, take}
use Rattle.length_text.specs.LengthLines.{length_text}
use Rattle.length_text.proofs.lengths_length.Given as goal

abbrev pub invariant-loop-n : goal.invariant-loop-n
invariant-loop-n l = (l.total ≡ length (length_text (take l.n-index l.n-items))) × (l.total ≤ l.n-index * 18)
