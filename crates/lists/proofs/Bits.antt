-- A test as a number (`bit`): it is 0 or 1 (`bit-small`), and the number tells the test (`bit-zero`, `bit-one`). So how often something
-- holds is a sum, and sums of bits are compared by arithmetic.
use mathlib.Core.Path.{◌≡◌, refl}
use mathlib.Core.Bool.{Bool, true, false, not}
use Prim.Native.Nat.{ℕ, zero, suc, ◌+◌, ◌<◌}
use native.Mathlib.Omega.{arith}
use lib.Dec.{eqb, ltb, eqb-suc-suc, eqb-suc-zero, eqb-zero-suc, leb-suc-suc, leb-zero, leb-suc-zero}
use Rattle.lists.specs.Sums.{bit}

pub bit-small : (t : Bool) → bit t < 2
unfolding bit
bit-small true = omega arith
bit-small false = omega arith

pub bit-zero : (t : Bool) → bit t ≡ 0 → t ≡ false
unfolding bit
bit-zero true e = absurd (let w : ⊥ = omega arith in w)
bit-zero false e = refl

pub bit-one : (t : Bool) → bit t ≡ 1 → t ≡ true
unfolding bit
bit-one true e = refl
bit-one false e = absurd (let w : ⊥ = omega arith in w)

pub bit_test : (t : Bool) → eqb (bit t) 1 ≡ t
unfolding bit
bit_test true = refl
bit_test false = refl

pub bit-of : (r : ℕ) → r < 2 → bit (eqb r 1) ≡ r
unfolding bit
bit-of zero h = refl
bit-of (suc zero) h = refl
bit-of (suc (suc r)) h = absurd (let w : ⊥ = omega arith in w)

-- of the numbers up to x, v is x or one of those before it
pub bit-step : (v x : ℕ) → bit (eqb x v) + bit (ltb v x) ≡ bit (ltb v (suc x))
unfolding bit
bit-step zero zero = refl
bit-step zero (suc x) = rw (eqb-suc-zero x, leb-suc-suc 0 x, leb-zero x, leb-suc-suc 0 (suc x), leb-zero (suc x))
bit-step (suc v) zero = rw (eqb-zero-suc v, leb-suc-zero (suc v), leb-suc-suc (suc v) 0, leb-suc-zero v)
bit-step (suc v) (suc x) = rw (eqb-suc-suc x v, leb-suc-suc (suc v) x, leb-suc-suc (suc v) (suc x)) (bit-step v x)

-- a test or its opposite holds
pub bit-either : (t : Bool) → bit (not t) + bit t ≡ 1
unfolding bit
bit-either true = refl
bit-either false = refl
