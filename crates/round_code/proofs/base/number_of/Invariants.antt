-- `round_code::base::number_of` meets its contract: after i turns the result is the number of the first i digits.
use mathlib.Core.Path.{◌≡◌}
use lib.ListN.{take}
use Rattle.round_scheme.specs.Round.{number}
use Rattle.round_code.proofs.base.number_of.Given as goal

abbrev pub invariant-loop-digit : goal.invariant-loop-digit
invariant-loop-digit l = l.result ≡ number l.n (take l.digit-index l.row)
