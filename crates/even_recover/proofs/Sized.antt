-- The numbers that recovery computes from the parameters are small: `sized`.
use Prim.Native.Nat.{ℕ, suc, ◌-◌, ◌*◌, ◌/◌, ◌^◌, ◌≤◌, ◌<◌}
use native.Mathlib.Nat.{one-le-pow, pow-le-pow_right, pow-suc, div-le_self, mul-le-mul_left, mul-le-mul_right, le-mul_of_pos_right}
use native.Mathlib.Omega.{arith}
use mathlib.Core.Path.{◌≡◌, ap, ◌∙◌}
use Rattle.parameters.specs.Measures.{even_rows}
use Rattle.parameters.proofs.Bounds.{EvenBounds}
use Rattle.even_places.specs.Rule.{row_count}
use Rattle.even_places.proofs.Counts.{row-count-is, row-count-product}

pub record Sized (N K wanted : ℕ) : Type 0 where
  pub whole-low : 1 ≤ N ^ (K - 1)
  pub whole-high : N ^ (K - 1) ≤ 256
  pub rest-high : (N ^ (K - 1) - 1) / (N - 1) ≤ 256
  pub query-high : K * N ^ (K - 1) ≤ 1024
  pub bit-low : 1 ≤ 2 ^ wanted
  pub bit_high : 2 ^ wanted ≤ 128
  pub rows-high : even_rows N K ≤ 256

pub sized : {N K S wanted : ℕ} → EvenBounds N K S → wanted < K → Sized N K wanted
unfolding even_rows
sized {N} {K} {S} {wanted} bounds known =
    let less : K - 1 ≤ K = omega arith in
    let whole : N ^ (K - 1) ≤ N ^ K = pow-le-pow_right {n = N} (omega (arith, bounds.servers-low)) less in
    let half : N ^ (K - 1) * 2 ≤ N ^ (K - 1) * N = mul-le-mul_left (N ^ (K - 1)) bounds.servers-low in
    let one_more : N ^ K ≡ N ^ (K - 1) * N = ap (λ (b : ℕ). N ^ b) (let e : K ≡ suc (K - 1) = omega arith in e) ∙ pow-suc N (K - 1) in
    let cells : K * N ^ (K - 1) ≤ 8 * N ^ (K - 1) = mul-le-mul_right (N ^ (K - 1)) bounds.messages-high in
    let seven : wanted ≤ 7 = omega (arith, bounds.messages-high) in
    let rest = div-le_self (N ^ (K - 1) - 1) (N - 1) in
    let count = le-mul_of_pos_right {m = N - 1} (row_count N K) (omega (arith, bounds.servers-low)) in
    record {
      whole-low = one-le-pow (K - 1) N (omega (arith, bounds.servers-low));
      whole-high = omega (arith, bounds.symbols-high);
      rest-high = omega (arith, bounds.symbols-high);
      query-high = omega (arith, bounds.symbols-high);
      bit-low = one-le-pow wanted 2 (omega arith);
      bit_high = pow-le-pow_right {n = 2} (omega arith) seven;
      rows-high =
          omega (arith, row-count-is N K bounds.servers-low bounds.messages-low, row-count-product N K bounds.servers-low, bounds.symbols-high);
    }
