-- `text_lines::value` meets its contract: n is the value of the digits passed, below the power of their number, and stands before the rest.
use mathlib.Core.Path.{◌≡◌}
use Prim.Native.Nat.{◌^◌, ◌<◌}
use lib.ListN.{drop}
use Rattle.text_lines.specs.Decimal.{value_from}
use Rattle.text_lines.proofs.value.Given as goal

abbrev pub invariant-loop-byte : goal.invariant-loop-byte
invariant-loop-byte l = (l.n < 10 ^ l.byte-index) × (value_from 0 l.text ≡ value_from l.n (drop l.byte-index l.text))
