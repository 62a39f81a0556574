-- `gozimpe::minus` meets its contract: a byte with a minus sign fits.
use mathlib.Core.Path.{ap, ◌∙◌}
use Prim.Native.Nat.{ℕ}
use native.Mathlib.Omega.{arith}
use lib.IntN.{pos, neg_ℤ}
use Rattle.gozimpe.proofs.Signed.{negated_fits, negated-signed}
use Rattle.gozimpe.proofs.minus.Goals as goal

pub overflow_sub-result : goal.overflow_sub-result
overflow_sub-result c = negated_fits c.number-number.result (omega arith)

pub returns : goal.returns
returns c = negated-signed c.number-number.result (omega arith) ∙ ap (λ (n : ℕ). neg_ℤ (pos n)) c.number-number.ensures
