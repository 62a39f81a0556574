-- Where symbols lie in a store: each within its bounds. `symbol-length`: what a digit names is a whole symbol.
use mathlib.Core.Path.{◌≡◌, sym, ap, ◌∙◌}
use mathlib.Core.List.{List}
use Prim.Native.Nat.{ℕ, suc, ◌+◌, ◌-◌, ◌*◌, ◌≤◌, ◌<◌}
use native.Mathlib.Nat.{suc-mul, mul_assoc, mul-le-mul_right, le-mul_of_pos_right, le_of_eq, le_trans}
use native.Mathlib.Omega.{arith}
use lib.ListN.{length}
use Rattle.lists.proofs.Cuts.{cut-length}
use Rattle.symbol.specs.Sum.{symbol_at}

-- the symbol that ends at a + d, and how large the numbers are that lead there
pub part-within : (a d S long : ℕ) → 0 < d → 0 < S → (a + d) * S ≤ long → ((a + (d - 1)) * S + S ≤ long) × (a + d ≤ long)
part-within a d S long h s l =
    let x = a + d in
    let e : suc (a + (d - 1)) ≡ x = omega arith in
    let last : (a + (d - 1)) * S + S ≡ x * S = sym (suc-mul (a + (d - 1)) S) ∙ ap (λ (n : ℕ). n * S) e in
    (omega arith, omega (arith, le-mul_of_pos_right x s))

-- digit d of message p, in a store of K messages of N - 1 symbols
pub digit-within : (N K S p d : ℕ) → p < K → d < N → (p * (N - 1) + d) * S ≤ K * ((N - 1) * S)
digit-within N K S p d h k =
    let last : suc p * (N - 1) ≤ K * (N - 1) = mul-le-mul_right (N - 1) h in
    let here : p * (N - 1) + d ≤ K * (N - 1) = omega (arith, suc-mul p (N - 1)) in
    le_trans (mul-le-mul_right S here) (le_of_eq (mul_assoc K (N - 1) S))

-- the symbol that digit d names is a whole one
pub symbol-length : (S : ℕ) (store : List ℕ) (at d : ℕ) → (at + suc d) * S ≤ length store → length (symbol_at S store (at + d)) ≡ S
symbol-length S store at d h =
    let next : at + suc d ≡ suc (at + d) = omega arith in
    let last : (at + suc d) * S ≡ (at + d) * S + S = ap (λ (n : ℕ). n * S) next ∙ suc-mul (at + d) S in
    cut-length ((at + d) * S) S store (omega arith)
