-- `text_lines::width` meets its contract: the digits counted, less one, and those of what is left are all of them.
use mathlib.Core.Path.{◌≡◌}
use Prim.Native.Nat.{◌+◌}
use lib.ListN.{length}
use Rattle.text_lines.specs.Decimal.{decimal}
use Rattle.text_lines.proofs.width.Given as goal

abbrev pub invariant-loop-front : goal.invariant-loop-front
invariant-loop-front l = length (decimal l.n) + 1 ≡ l.count + length (decimal l.front)

abbrev pub decreases-loop-front : goal.decreases-loop-front
decreases-loop-front l = l.front
