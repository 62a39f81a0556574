-- `text_lines::digits` meets its contract: i digits are passed, and the rest has the others.
use mathlib.Core.Path.{◌≡◌}
use Prim.Native.Nat.{◌+◌}
use lib.ListN.{drop}
use Rattle.text_lines.specs.Decimal.{digit_count}
use Rattle.text_lines.proofs.digits.Given as goal

abbrev pub invariant-loop-i : goal.invariant-loop-i
invariant-loop-i l = digit_count l.text ≡ l.i + digit_count (drop l.i l.text)
