-- The places that the totals give (`place_among`) are the rule's: of other messages in side rows (`place-side`), of the wanted one in the first
-- block (`place-first`) and in the others (`place-wanted`).
use Prim.Native.Nat.{ℕ, suc, ◌+◌, ◌-◌, ◌*◌, ◌^◌, ◌≤◌, ◌<◌}
use native.Mathlib.Nat.{mul-add, add-mul, mul_assoc, mul_left_comm, mul-zero, mul-one, one-mul, pow-zero}
use native.Mathlib.Omega.{arith}
use mathlib.Core.Path.{◌≡◌, refl, sym, ap, ◌∙◌}
use mathlib.Core.Logic.{◌≢◌}
use mathlib.Core.Bool.{true, false}
use lib.ListN.{length, get_or}
use borrow.Author.Tests.{eq-eqb, ne_eqb}
use Rattle.lists.specs.Ranges.{range}
use Rattle.lists.specs.Sums.{keep, sum}
use Rattle.lists.proofs.Sums.{sum-range}
use Rattle.even_places.specs.Rule.{side_sets, all_sets}
use Rattle.even_places.specs.Counting.{with, used, joins}
use Rattle.even_places.proofs.AllSets.{all-sets}
use Rattle.even_ranks.specs.Counts.{counter, no_counts, counted_all, totals_of, takers, taken}
use Rattle.even_ranks.specs.Walk.{place_among}
use Rattle.even_ranks.proofs.Counters.{of_kind, counts-tell}
use Rattle.even_ranks.proofs.Ranking.{side-total, sources-total, wanted-total}

module _ (N K k : ℕ) (wide : 1 < N) (wanted : k < K) (few : K ≤ 8) where
  takers-side : (b p : ℕ) → b < K → p < K → p ≢ k → takers k (totals_of K k) b p ≡ with p (keep (of_kind k false b) (all_sets K))
  unfolding takers totals_of
  takers-side b p hb hp d =
      ap (λ t. get_or (counted_all k (all_sets K) no_counts) (counter t b p) 0) (ne_eqb p k d) ∙ counts-tell K k few (all-sets K) false b p (omega arith) hp

  takers-wanted : (b : ℕ) → b < K → takers k (totals_of K k) b k ≡ with k (keep (of_kind k true b) (all_sets K))
  unfolding takers totals_of
  takers-wanted b hb =
      ap (λ t. get_or (counted_all k (all_sets K) no_counts) (counter t b k) 0) (eq-eqb k k refl) ∙ counts-tell K k few (all-sets K) true b k (omega arith) wanted

  -- the places of other messages, taken by side rows
  pub place-side : (b p m rank r : ℕ) → b < K → p < K → p ≢ k
      → place_among N k (totals_of K k) b p ((N - 1) ^ b) m rank r ≡ used N (λ j. with p (side_sets N K k j)) b m + (N - 1) ^ b * rank + r
  unfolding place_among taken used
  place-side b p m rank r hb hp d =
      omega (arith, ap (λ s. N * s) before-b, ap (λ s. m * s) (share b hb), mul-add q (m * T) rank, mul_left_comm q m T)
    where
      q : ℕ
      q = (N - 1) ^ b

      T : ℕ
      T = takers k (totals_of K k) b p

      share : (j : ℕ) → j < K → (N - 1) ^ j * takers k (totals_of K k) j p ≡ with p (side_sets N K k j)
      share j h = ap (λ s. (N - 1) ^ j * s) (takers-side j p h hp d) ∙ sym (side-total K k wanted N wide p j h)

      before-b : sum (λ j. (N - 1) ^ j * takers k (totals_of K k) j p) (range 0 b) ≡ sum (λ j. with p (side_sets N K k j)) (range 0 b)
      before-b = sum-range (λ j. (N - 1) ^ j * takers k (totals_of K k) j p) (λ j. with p (side_sets N K k j)) b (λ j l. share j (omega arith))

  taken-wanted : (b : ℕ) → b < K → taken N k (totals_of K k) b k ≡ sum (joins N K k) (range 0 b)
  unfolding taken
  taken-wanted b h =
      sum-range (λ j. (N - 1) ^ j * takers k (totals_of K k) j k) (joins N K k) b
      (λ j l. ap (λ s. (N - 1) ^ j * s) (takers-wanted j (omega arith)) ∙ sym (wanted-total K k wanted N wide j (omega arith)))

  -- one set of the first block has k
  pub wanted-one : with k (keep (of_kind k true 0) (all_sets K)) ≡ 1
  unfolding joins
  wanted-one =
      sym (one-mul (with k (keep (of_kind k true 0) (all_sets K))))
      ∙ sym (wanted-total K k wanted N wide 0 (omega arith) ∙ ap (λ s. s * with k (keep (of_kind k true 0) (all_sets K))) (pow-zero (N - 1)))

  -- the places of the wanted message, in the first block and in the others
  pub place-first : (n rank r : ℕ) → rank ≡ 0 → r ≡ 0 → place_among N k (totals_of K k) 0 k ((N - 1) ^ 0) n rank r ≡ n
  unfolding place_among taken sum range
  place-first n rank r e f =
      omega (arith, mul-zero N, ap (λ s. s * (n * T + rank)) (pow-zero (N - 1)), one-mul (n * T + rank), ap (λ s. n * s) one, mul-one n)
    where
      T : ℕ
      T = takers k (totals_of K k) 0 k

      one : T ≡ 1
      one = takers-wanted 0 (omega arith) ∙ wanted-one

  pub place-wanted : (b n j rank r : ℕ) → suc b < K
      → place_among N k (totals_of K k) (suc b) k ((N - 1) ^ b) (n * (N - 1) + j) rank r
      ≡ used N (joins N K k) (suc b) n + j * length (side_sets N K k b) + (N - 1) ^ b * rank + r
  unfolding place_among used joins
  place-wanted b n j rank r h =
      omega (
        arith,
        ap (λ s. N * s) (taken-wanted (suc b) h),
        ap (λ s. n * ((N - 1) * s)) size,
        ap (λ s. j * s) size,
        mul-add q ((n * (N - 1) + j) * T) rank,
        spread,
      )
    where
      q : ℕ
      q = (N - 1) ^ b

      T : ℕ
      T = takers k (totals_of K k) (suc b) k

      size : length (side_sets N K k b) ≡ q * T
      size = sources-total K k wanted N wide b h ∙ ap (λ s. q * s) (sym (takers-wanted (suc b) h))

      spread : q * ((n * (N - 1) + j) * T) ≡ n * ((N - 1) * (q * T)) + j * (q * T)
      spread = mul_left_comm q (n * (N - 1) + j) T ∙ add-mul (n * (N - 1)) j (q * T) ∙ ap (λ s. s + j * (q * T)) (mul_assoc n (N - 1) (q * T))
