-- No power on the way to one that fits is too large (`power-fits`): with a base of 1 or more they grow, and a base of 0 gives 0 or 1.
use Prim.Native.Nat.{ℕ, zero, suc, ◌^◌, ◌≤◌, ◌<◌}
use native.Mathlib.Nat.{mul-zero, pow-suc, pow-le-pow_right}
use native.Mathlib.Omega.{arith}

pub power-fits : (base i exponent : ℕ) → i ≤ exponent → base ^ exponent < 2 ^ 64 → base ^ i < 2 ^ 64
power-fits zero zero exponent h e = omega arith
power-fits zero (suc i) exponent h e = omega (arith, pow-suc 0 i, mul-zero (0 ^ i))
power-fits (suc base) i exponent h e = omega (arith, pow-le-pow_right {n = suc base} (omega arith) h)
