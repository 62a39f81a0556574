-- `round_code::base::number_of` meets its contract: after i turns the result is the number of the first i digits.
use mathlib.Core.Path.{◌≡◌, refl, sym, ap, ◌∙◌}
use mathlib.Core.Bool.{true}
use mathlib.Core.List.{List}
use Prim.Native.Nat.{ℕ, ◌+◌, ◌*◌, ◌^◌, ◌<◌}
use native.Mathlib.Omega.{arith}
use lib.ListN.{length, get_or, take}
use Rattle.lists.specs.Below.{all_below}
use Rattle.lists.proofs.Below.{all_below-below}
use Rattle.round_scheme.specs.Round.{number}
use Rattle.round_code.proofs.LastDigits.{digit-read, read_low}
use Rattle.round_code.proofs.base.number_of.Goals as goal

-- the sum that a turn makes, and that it is small
next : (n : ℕ) (row : List ℕ) (i result : ℕ) → i < length row → result ≡ number n (take i row)
    → result * n + get_or row i 0 ≡ number n (take (i + 1) row)
next n row i result h e = ap (λ (r : ℕ). r * n + get_or row i 0) e ∙ sym (digit-read n row i h)

small : (n : ℕ) (row : List ℕ) (i result : ℕ) → i < length row → result ≡ number n (take i row)
    → 0 < n → all_below n row ≡ true → n ^ length row < 2 ^ 64 → result * n + get_or row i 0 < 2 ^ 64
small n row i result h e some good fits =
    let low = read_low n some row (all_below-below n row good) fits (i + 1) (omega arith) in
    omega (arith, next n row i result h e, low)

pub loop-digit-init : goal.loop-digit-init
unfolding number
loop-digit-init c = refl

pub overflow_mul-result : goal.overflow_mul-result
overflow_mul-result c =
    let a = c.args in
    let r = c.requires in
    let fits = small a.n a.row.now c.loop-digit.digit-index c.loop-digit.result (omega arith) c.loop-digit.invariant r.n_nonzero.0 r.n_nonzero.1 r.row_bound in
    record { fits = omega (arith, fits) }

pub overflow_add-result : goal.overflow_add-result
overflow_add-result c =
    let a = c.args in
    let r = c.requires in
    let fits = small a.n a.row.now c.loop-digit.digit-index c.loop-digit.result (omega arith) c.loop-digit.invariant r.n_nonzero.0 r.n_nonzero.1 r.row_bound in
    record { fits = fits }

pub loop-digit-preserved : goal.loop-digit-preserved
loop-digit-preserved c = next c.args.n c.args.row.now c.loop-digit.digit-index c.loop-digit.result (omega arith) c.loop-digit.invariant
