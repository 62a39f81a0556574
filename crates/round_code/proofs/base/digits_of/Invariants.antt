-- `round_code::base::digits_of` meets its contract: before each turn, the digits that are left, and those that are written behind them, are all.
use mathlib.Core.Path.{◌≡◌}
use mathlib.Core.List.{◌++◌}
use Prim.Native.Nat.{◌^◌, ◌<◌}
use lib.ListN.{length, drop}
use Rattle.lists.specs.Padded.{padded}
use Rattle.round_scheme.specs.Round.{digits}
use Rattle.round_code.specs.Steps.{most_digits}
use Rattle.round_code.proofs.base.digits_of.Given as goal

abbrev pub invariant-loop-i : goal.invariant-loop-i
invariant-loop-i l =
    (length l.out ≡ most_digits) × (l.rest < l.n ^ l.i) × (digits l.n l.i l.rest ++ drop l.i l.out ≡ padded most_digits (digits l.n l.count l.value))
