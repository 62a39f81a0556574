-- What the rows of a query name lies in the store: row i names symbols of block i of each message (`row-stored`, `digits-in-block`).
use mathlib.Core.Path.{◌≡◌, sym, ap, ◌∙◌}
use mathlib.Core.List.{List}
use Prim.Native.Nat.{ℕ, ◌+◌, ◌-◌, ◌*◌, ◌≤◌, ◌<◌}
use native.Mathlib.Nat.{mul_assoc, mul-le-mul_right, le_of_eq, le_trans}
use native.Mathlib.Omega.{arith}
use lib.ListN.{length, get_or}
use Rattle.lists.specs.Below.{Below}
use Rattle.lists.proofs.Below.{all_below-below}
use Rattle.lists.proofs.Cuts.{slot-end}
use Rattle.parameters.specs.Bounds.{blocks}
use Rattle.short_scheme.specs.Rows.{DigitRow, RowStored}

module _ (N K S : ℕ) (store : List ℕ) (whole : length store ≡ K * (blocks N K * ((N - 1) * S))) (i : ℕ) (inside : i < blocks N K) where
  -- digit d of message p, counted in symbols
  within : (p d : ℕ) → p < K → d < N → i * (N - 1) + p * (blocks N K * (N - 1)) + d ≤ K * (blocks N K * (N - 1))
  within p d h k =
      let last : i * (N - 1) + (N - 1) ≤ blocks N K * (N - 1) = slot-end i (blocks N K) (N - 1) inside in
      let next : p * (blocks N K * (N - 1)) + blocks N K * (N - 1) ≤ K * (blocks N K * (N - 1)) = slot-end p K (blocks N K * (N - 1)) h in
      omega arith

  pub digits-in-block : (row : List ℕ) → length row ≤ K → Below N row → RowStored (i * (N - 1)) (blocks N K * (N - 1)) S store row
  digits-in-block row short b = record {
    stored = λ p h.
        le_trans (mul-le-mul_right S (within p (get_or row p 0) (omega arith) (b p h)))
        (le_of_eq
        (mul_assoc K (blocks N K * (N - 1)) S ∙ ap (λ (n : ℕ). K * n) (mul_assoc (blocks N K) (N - 1) S) ∙ sym whole));
  }

  pub row-stored : (row : List ℕ) → DigitRow N K row → RowStored (i * (N - 1)) (blocks N K * (N - 1)) S store row
  row-stored row r = digits-in-block row (omega (arith, r.long)) (all_below-below N row r.digits)
