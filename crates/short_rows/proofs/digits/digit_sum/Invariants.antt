-- `short_rows::digits::digit_sum` meets its contract: after i turns the sum is the running sum after i digits, and the last one is the whole.
use mathlib.Core.Path.{◌≡◌}
use Rattle.short_rows.specs.Running.{sum_after}
use Rattle.short_rows.proofs.digits.digit_sum.Given as goal

abbrev pub invariant-loop-i : goal.invariant-loop-i
invariant-loop-i l = l.sum ≡ sum_after l.n l.digits l.i
