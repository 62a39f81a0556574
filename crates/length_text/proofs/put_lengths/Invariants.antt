-- `length_text::put_lengths` meets its contract: after i turns the first i lines are written.
use mathlib.Core.Path.{◌≡◌}
use Prim.Native.Nat.{◌+◌}
use lib.ListN.{length, take}
use Rattle.lists.specs.Parts.{put}
use Rattle.length_text.specs.LengthLines.{length_text}
use Rattle.length_text.proofs.put_lengths.Given as goal

abbrev pub invariant-loop-n : goal.invariant-loop-n
invariant-loop-n l =
    let first = length_text (take l.n-index l.n-items) in (l.next ≡ l.at + length first) × (l.out ≡ put l.at first l.initial.out)
