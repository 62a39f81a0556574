-- The rows of a query, counted: a sum over them goes over the rows made, in any order (`rows-sum`); there are as many as the layout
-- has (`rows-length`), which is what document 01 says (`row-count-is`).
use Prim.Native.Nat.{ℕ, suc, ◌+◌, ◌*◌, ◌-◌, ◌^◌, ◌/◌, ◌≤◌, ◌<◌}
use native.Mathlib.Nat.{mul_comm, mul-add, add-mul, pow-suc, div-eq_of_eq-mul_left, mul-suc, le_of_mul-le-mul_right, one-le-pow}
use native.Mathlib.Omega.{arith}
use mathlib.Core.Path.{◌≡◌, refl, sym, ap, ◌∙◌}
use mathlib.Core.List.{◌++◌}
use mathlib.Core.Bool.{not}
use lib.ListN.{length}
use Rattle.lists.specs.Sums.{bit, sum}
use Rattle.lists.specs.Ranges.{range}
use Rattle.lists.proofs.Sums.{sum-append, sum-add, sum-ext, sum_one, sum-flat_map}
use Rattle.lists.proofs.Bits.{bit-either}
use Rattle.even_places.specs.Rule.{has, sets, Row, by_set, rows, row_count}
use Rattle.even_places.specs.Counting.{used, side_rows, sources, joins, wanted_rows, block, counted_rows}
use Rattle.even_places.proofs.Choose.{tail, gen-tail, gen-one, swap-has}
use Rattle.even_places.proofs.Rows.{join-sum}
use Rattle.even_places.proofs.BySet.{by_set-sum}
use Rattle.even_places.proofs.BlockRows.{sets-zero, up, block-fits, side-length, side_sets-length, joins-is, sources-length}
use Rattle.even_places.proofs.Process.{rows-by-counting}

module _ (N K k : ℕ) (wide : 1 < N) (known : k < K) where
  -- a sum over a query's rows goes over the rows made, in any order
  pub rows-sum : (h : Row → ℕ) (n : ℕ) → n < N
      → sum h (rows N K k n) ≡ sum (λ b. sum h (side_rows N K k b n) + sum h (wanted_rows N K k b n)) (range 0 K)
  unfolding counted_rows block
  rows-sum h n there =
      ap (sum h) (rows-by-counting N K k wide known n there)
      ∙ sum-flat_map h (λ b. by_set (sets K (suc b)) (side_rows N K k b n ++ wanted_rows N K k b n)) (range 0 K)
      ∙ sum-ext (λ b. sum h (by_set (sets K (suc b)) (side_rows N K k b n ++ wanted_rows N K k b n)))
      (λ b. sum h (side_rows N K k b n) + sum h (wanted_rows N K k b n))
      (λ b. by_set-sum h K (suc b) (block-fits N K k wide known b n) ∙ sum-append h (side_rows N K k b n) (wanted_rows N K k b n)) (range 0 K)

  -- how many rows a query has
  pub rows-length : (n : ℕ) → n < N → length (rows N K k n) ≡ row_count N K
  unfolding row_count wanted_rows
  rows-length n l = sym (sum_one (rows N K k n)) ∙ rows-sum (λ r. 1) n l ∙ sum-ext _ (λ b. length (sets K (suc b)) * (N - 1) ^ b) block (range 0 K)
    where
      has-or-not : (b : ℕ) → sum (λ A. bit (not (has k A))) (sets K b) + sum (λ A. bit (has k A)) (sets K b) ≡ length (sets K b)
      has-or-not b =
          sym (sum-add (λ A. bit (not (has k A))) (λ A. bit (has k A)) (sets K b))
          ∙ sum-ext (λ A. bit (not (has k A)) + bit (has k A)) (λ A. 1) (λ A. bit-either (has k A)) (sets K b)
          ∙ sum_one (sets K b)

      block : (b : ℕ) → sum (λ r. 1) (side_rows N K k b n) + sum (λ r. 1) (wanted_rows N K k b n) ≡ length (sets K (suc b)) * (N - 1) ^ b
      block b =
          omega (
            arith,
            sum_one (side_rows N K k b n),
            side-length N K k wide known b n,
            side_sets-length N K k wide known b,
            join-sum (λ r. 1) (λ r. 1) k (λ r x. refl) (used N (joins N K k) b n) (sources N K k b n),
            sum_one (sources N K k b n),
            sources-length N K k wide known b n l,
            joins-is N K k wide known b,
            ap (λ s. (N - 1) ^ b * s) (swap-has K k b known),
            mul-add ((N - 1) ^ b) (sum (λ A. bit (not (has k A))) (sets K (suc b))) (sum (λ A. bit (has k A)) (sets K (suc b))),
            ap (λ s. (N - 1) ^ b * s) (has-or-not (suc b)),
            mul_comm ((N - 1) ^ b) (length (sets K (suc b))),
          )

-- the number of rows, as a product and as document 01 writes it
pub row-count-product : (N K : ℕ) → 1 < N → row_count N K * (N - 1) + 1 ≡ N ^ K
unfolding row_count tail
row-count-product N K wide =
    omega (
      arith,
      mul_comm (row_count N K) (N - 1),
      ap (λ s. (N - 1) * s) same-tail,
      gen-tail (N - 1) K (λ A. 1),
      sum_one (sets K 0),
      ap length (sets-zero K),
      gen-one (N - 1) K,
      ap (λ s. s ^ K) (up N (omega arith)),
    )
  where
    same-tail : row_count N K ≡ tail (N - 1) K (λ A. 1)
    same-tail =
        sum-ext (λ b. length (sets K (suc b)) * (N - 1) ^ b) (λ b. (N - 1) ^ b * sum (λ A. 1) (sets K (suc b)))
        (λ b. mul_comm (length (sets K (suc b))) ((N - 1) ^ b) ∙ ap (λ s. (N - 1) ^ b * s) (sym (sum_one (sets K (suc b))))) (range 0 K)

pub row-count-is : (N K : ℕ) → 1 < N → 0 < K → row_count N K ≡ N ^ (K - 1) + (N ^ (K - 1) - 1) / (N - 1)
row-count-is N K wide some-message = omega (arith, more, div-eq_of_eq-mul_left (omega arith) rest)
  where
    P : ℕ
    P = N ^ (K - 1)

    -- N^K = P (N - 1) + P
    split : N ^ K ≡ P * (N - 1) + P
    split = ap (λ j. N ^ j) (sym (up K (omega arith))) ∙ pow-suc N (K - 1) ∙ ap (λ s. P * s) (sym (up N (omega arith))) ∙ mul-suc P (N - 1)

    more : P ≤ row_count N K
    more = le_of_mul-le-mul_right {k = N - 1} (omega (arith, row-count-product N K wide, split, one-le-pow (K - 1) N (omega arith))) (omega arith)

    rest : P - 1 ≡ (row_count N K - P) * (N - 1)
    rest = omega (arith, row-count-product N K wide, split, ap (λ s. s * (N - 1)) back, add-mul (row_count N K - P) P (N - 1))
      where
        back : row_count N K ≡ row_count N K - P + P
        back = omega (arith, more)
