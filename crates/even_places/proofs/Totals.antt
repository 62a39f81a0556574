-- How often each place stands in the queries, for every N, K and wanted message k: of another message than k each place below N^(K-1)
-- stands once in each query (`other-once`), of k each place below N^K once in all queries together (`wanted-once`).
use Prim.Native.Nat.{ℕ, zero, suc, ◌+◌, ◌*◌, ◌-◌, ◌^◌, ◌≤◌, ◌<◌}
use native.Mathlib.Nat.{mul-zero, not-suc-le-zero, pow-succ', eq_of_mul-eq-mul_left}
use native.Mathlib.Omega.{arith}
use mathlib.Core.Path.{◌≡◌, refl, sym, ap, ◌∙◌, subst}
use mathlib.Core.Logic.{◌≢◌}
use mathlib.Core.List.{List, [], flat_map}
use mathlib.Core.Bool.{Bool, false, not}
use mathlib.Core.Option.{none, some}
use lib.ListN.{set, replicate, get_or-replicate}
use lib.Seq.{get_or-set_other}
use Rattle.lists.specs.Sums.{bit, sum}
use Rattle.lists.specs.Ranges.{range}
use Rattle.lists.proofs.Sums.{sum-mul, sum-ext, sum-all, sum-zero, sum-flat_map, sum-swap, sum-next, sum_same, sum-none, sum-range}
use Rattle.lists.proofs.Each.{All-imp}
use Rattle.lists.proofs.Keep.{keep-nothing}
use Rattle.even_places.specs.Rule.{has, sets, Row, number, others, side_sets, is_some, rows}
use Rattle.even_places.specs.Counting.{with, used, side_rows, sources, joins, wanted_rows}
use Rattle.even_places.proofs.Choose.{gen, tail, gen-tail, gen-not, gen-both, full-has}
use Rattle.even_places.proofs.Rows.{below, hit, is, gives, below-zero, number-hit, number-gives, join-sum, join-hit, join-gives, others-sum}
use Rattle.even_places.proofs.BlockRows.{sets-zero, has-none, used-next, used_all, used_over, up, fresh, starts, starts-length, starts-at, side-is}
use Rattle.even_places.proofs.BlockRows.{side_sets-lack, side-lacks, side_sets-sum, joins-is, sources-length, sources-long}
use Rattle.even_places.proofs.Counts.{rows-sum}

sum-part : (f : ℕ → ℕ) (M n : ℕ) → n < M → f n ≤ sum f (range 0 M)
sum-part f M n l = omega (arith, others-sum f M n l)

-- places that are handed out in turn, g b n of them v: over all servers and blocks each place below the last once
module _ (N v : ℕ) (f : ℕ → ℕ) (g : ℕ → ℕ → ℕ) (turn : (b n : ℕ) → n < N → g b n + below v (used N f b n) ≡ below v (used N f b n + f b)) where
  turns : (b n : ℕ) → n ≤ N → sum (g b) (range 0 n) + below v (used N f b 0) ≡ below v (used N f b n)
  unfolding sum range
  turns b zero l = omega arith
  turns b (suc n) l = omega (arith, sum-next (g b) n, turns b n (omega arith), turn b n l, ap (below v) (used-next N f b n))

  handed : (B : ℕ) → sum (λ b. sum (g b) (range 0 N)) (range 0 B) ≡ below v (N * sum f (range 0 B))
  unfolding sum range
  handed zero = sym (ap (below v) (mul-zero N) ∙ below-zero v)
  handed (suc B) =
      omega (
        arith,
        sum-next (λ b. sum (g b) (range 0 N)) B,
        handed B,
        turns B N (omega arith),
        ap (below v) (used_all N f B),
        ap (below v) (used_over N f B),
        ap (below v) (used_all N f (suc B)),
      )

module _ (N K k : ℕ) (wide : 1 < N) (known : k < K) where
  side-hit : (p v b n : ℕ) → p < K
      → sum (hit p v) (side_rows N K k b n) + below v (used N (fresh N K k wide known p) b n)
      ≡ below v (used N (fresh N K k wide known p) b n + fresh N K k wide known p b)
  unfolding fresh
  side-hit p v b n h =
      rw (side-is N K k wide known b n, ← starts-at N K k wide known p b n h)
      (number-hit K p v (starts N K k wide known b n) (starts-length N K k wide known b n) (All-imp (λ A l. l.long) (side_sets-lack N K k wide known b)))

  side-gives : (p b n : ℕ) → sum (gives p) (side_rows N K k b n) ≡ fresh N K k wide known p b
  unfolding fresh
  side-gives p b n =
      rw (side-is N K k wide known b n)
      (number-gives K p (starts N K k wide known b n) (starts-length N K k wide known b n) (All-imp (λ A l. l.long) (side_sets-lack N K k wide known b)))

  -- in the last block there are no side rows
  last-sets : (J : ℕ) → suc J ≡ K → side_sets N K k J ≡ []
  unfolding side_sets flat_map
  last-sets J e =
      ap (flat_map (replicate ((N - 1) ^ J)))
      (keep-nothing (λ A. not (has k A))
      (sum-none (λ A. not (has k A)) (sets K (suc J)) (ap (λ j. sum (λ A. bit (not (has k A))) (sets K j)) e ∙ full-has K k known)))

  last_sum : (h : Row → ℕ) (n : ℕ) → sum h (sources N K k K n) ≡ 0
  unfolding sources number sum
  last_sum h n = subst (λ (j : ℕ). sum h (sources N K k j n) ≡ 0) (up K (omega arith)) (go (K - 1) (up K (omega arith)))
    where
      none_made : (J m : ℕ) → suc J ≡ K → sum h (side_rows N K k J m) ≡ 0
      none_made J m e = rw (side-is N K k wide known J m, last-sets J e) refl

      go : (J : ℕ) → suc J ≡ K → sum h (sources N K k (suc J) n) ≡ 0
      go J e =
          sum-flat_map h (side_rows N K k J) (others N n) ∙ sum-ext (λ m. sum h (side_rows N K k J m)) (λ m. 0) (λ m. none_made J m e) (others N n)
          ∙ sum-zero (others N n)

  -- what does not look at k: server n's rows have it as often as the side rows of all servers
  assemble : (h : Row → ℕ) → ((r : Row) (x : ℕ) → h (set r k (some x)) ≡ h r) → h (replicate K none) ≡ 0 → (n : ℕ) → n < N
      → sum h (rows N K k n) ≡ sum (λ b. sum (λ m. sum h (side_rows N K k b m)) (range 0 N)) (range 0 K)
  unfolding sources wanted_rows sum range
  assemble h blind blank n l =
      rows-sum N K k wide known h n l
      ∙ sum-ext (λ b. g b + sum h (wanted_rows N K k b n)) (λ b. g b + S b)
      (λ b. ap (λ s. g b + s) (join-sum h h k blind (used N (joins N K k) b n) (sources N K k b n))) (range 0 K)
      ∙ omega (arith, blocks K, last_sum h n)
    where
      g : ℕ → ℕ
      g b = sum h (side_rows N K k b n)

      S : ℕ → ℕ
      S b = sum h (sources N K k b n)

      D : ℕ → ℕ
      D b = sum (λ m. sum h (side_rows N K k b m)) (range 0 N)

      blocks : (B : ℕ) → sum (λ b. g b + S b) (range 0 B) + S B ≡ sum D (range 0 B)
      blocks zero = omega (arith, blank)
      blocks (suc B) =
          omega (
            arith,
            sum-next (λ b. g b + S b) B,
            sum-next D B,
            blocks B,
            sum-flat_map h (side_rows N K k B) (others N n),
            others-sum (λ m. sum h (side_rows N K k B m)) N n l,
          )

  fresh-is : (p b : ℕ) → fresh N K k wide known p b ≡ (N - 1) ^ b * sum (λ A. bit (not (has k A)) * bit (has p A)) (sets K (suc b))
  unfolding fresh with
  fresh-is p b = side_sets-sum N K k wide known (λ A. bit (has p A)) b

  pub other-total : (p : ℕ) → p < K → p ≢ k → N * sum (fresh N K k wide known p) (range 0 K) ≡ N ^ (K - 1)
  unfolding tail sum bit
  other-total p hp e =
      ap (λ s. N * s) (same-tail ∙ eq_of_mul-eq-mul_left (N - 1) (omega arith) (tail (N - 1) K w) (N ^ (K - 2)) product) ∙ sym (pow-succ' N (K - 2))
      ∙ ap (λ j. N ^ j) one_less
    where
      w : List Bool → ℕ
      w A = bit (not (has k A)) * bit (has p A)

      same-tail : sum (fresh N K k wide known p) (range 0 K) ≡ tail (N - 1) K w
      same-tail = sum-ext (fresh N K k wide known p) (λ b. (N - 1) ^ b * sum w (sets K (suc b))) (fresh-is p) (range 0 K)

      two-less : suc (suc (K - 2)) ≡ K
      two-less = two K known hp
        where
          two : (M : ℕ) → k < M → p < M → suc (suc (M - 2)) ≡ M
          two zero a b = absurd (not-suc-le-zero a)
          two (suc zero) a b = absurd (e (omega arith))
          two (suc (suc M)) a b = omega arith

      one_less : suc (K - 2) ≡ K - 1
      one_less = omega (arith, two-less)

      nothing : sum w (sets K 0) ≡ 0
      nothing =
          rw (sets-zero K)
          (omega (arith, ap (λ t. bit (not (has k (replicate K false))) * bit t) (has-none K p), mul-zero (bit (not (has k (replicate K false))))))

      product : (N - 1) * tail (N - 1) K w ≡ (N - 1) * N ^ (K - 2)
      product =
          omega (
            arith,
            gen-tail (N - 1) K w,
            nothing,
            ap (λ j. gen (N - 1) j w) two-less,
            gen-both (N - 1) (K - 2) k p (omega (arith, two-less)) (omega (arith, two-less)) e,
            ap (λ s. (N - 1) * s ^ (K - 2)) (up N (omega arith)),
          )

  pub wanted-total : sum (joins N K k) (range 0 K) ≡ N ^ (K - 1)
  unfolding gen
  wanted-total =
      omega (
        arith,
        sum-ext (joins N K k) (λ b. (N - 1) ^ b * sum w (sets K b)) (joins-is N K k wide known) (range 0 K),
        sum-next (λ b. (N - 1) ^ b * sum w (sets K b)) K,
        ap (λ s. (N - 1) ^ K * s) (full-has K k known),
        mul-zero ((N - 1) ^ K),
        ap (λ j. gen (N - 1) j w) one_less,
        gen-not (N - 1) (K - 1) k (omega (arith, one_less)),
        ap (λ s. s ^ (K - 1)) (up N (omega arith)),
      )
    where
      w : List Bool → ℕ
      w A = bit (not (has k A))

      one_less : suc (K - 1) ≡ K
      one_less = omega arith

  -- of another message than k, server n's query has each place below N^(K-1) once, and no other
  pub other-once : (p v n : ℕ) → p < K → p ≢ k → n < N → sum (hit p v) (rows N K k n) ≡ below v (N ^ (K - 1))
  unfolding hit is
  other-once p v n hp e l =
      assemble (hit p v) (λ r x. ap (is v) (get_or-set_other r k p (some x) none e)) (ap (is v) (get_or-replicate K p none none hp)) n l
      ∙ handed N v (fresh N K k wide known p) (λ b m. sum (hit p v) (side_rows N K k b m)) (λ b m h. side-hit p v b m hp) K
      ∙ ap (below v) (other-total p hp e)

  pub other-many : (p n : ℕ) → p < K → p ≢ k → n < N → sum (gives p) (rows N K k n) ≡ N ^ (K - 1)
  unfolding gives is_some bit
  other-many p n hp e l =
      assemble (gives p) (λ r x. ap (λ o. bit (is_some o)) (get_or-set_other r k p (some x) none e))
      (ap (λ o. bit (is_some o)) (get_or-replicate K p none none hp)) n l
      ∙ sum-ext (λ b. sum (λ m. sum (gives p) (side_rows N K k b m)) (range 0 N)) (λ b. N * fresh N K k wide known p b)
      (λ b. sum-ext (λ m. sum (gives p) (side_rows N K k b m)) (λ m. fresh N K k wide known p b) (side-gives p b) (range 0 N)
      ∙ sum_same (fresh N K k wide known p b) N) (range 0 K)
      ∙ sum-mul N (fresh N K k wide known p) (range 0 K)
      ∙ other-total p hp e

  side-no-hit : (v b n : ℕ) → sum (hit k v) (side_rows N K k b n) ≡ 0
  unfolding hit is
  side-no-hit v b n = sum-all (hit k v) (λ r. 0) (All-imp (λ r h. ap (is v) h.lack) (side-lacks N K k wide known b n)) ∙ sum-zero (side_rows N K k b n)

  side-no-gives : (b n : ℕ) → sum (gives k) (side_rows N K k b n) ≡ 0
  unfolding gives is_some bit
  side-no-gives b n =
      sum-all (gives k) (λ r. 0) (All-imp (λ r h. ap (λ o. bit (is_some o)) h.lack) (side-lacks N K k wide known b n)) ∙ sum-zero (side_rows N K k b n)

  wanted-turn : (v b n : ℕ) → n < N
      → sum (hit k v) (wanted_rows N K k b n) + below v (used N (joins N K k) b n) ≡ below v (used N (joins N K k) b n + joins N K k b)
  unfolding wanted_rows
  wanted-turn v b n l =
      join-hit k v (used N (joins N K k) b n) (sources-long N K k wide known b n)
      ∙ ap (λ s. below v (used N (joins N K k) b n + s)) (sources-length N K k wide known b n l)

  -- of the wanted message, the queries of all servers together have each place below N^K once, and no other
  pub wanted-once : (v : ℕ) → sum (λ n. sum (hit k v) (rows N K k n)) (range 0 N) ≡ below v (N ^ K)
  wanted-once v =
      sum-range (λ n. sum (hit k v) (rows N K k n)) (λ n. sum (λ b. g b n) (range 0 K)) N
      (λ n l. rows-sum N K k wide known (hit k v) n l ∙ sum-ext _ (λ b. g b n) (λ b. omega (arith, side-no-hit v b n)) (range 0 K))
      ∙ sum-swap (λ n b. g b n) (range 0 N) (range 0 K)
      ∙ handed N v (joins N K k) g (wanted-turn v) K
      ∙ ap (below v) (ap (λ s. N * s) wanted-total ∙ sym (pow-succ' N (K - 1)) ∙ ap (λ j. N ^ j) one_less)
    where
      g : ℕ → ℕ → ℕ
      g b n = sum (hit k v) (wanted_rows N K k b n)

      one_less : suc (K - 1) ≡ K
      one_less = omega arith

  pub wanted-many : (n : ℕ) → n < N → sum (gives k) (rows N K k n) ≡ N ^ (K - 1)
  unfolding wanted_rows
  wanted-many n l =
      rows-sum N K k wide known (gives k) n l
      ∙ sum-ext _ (joins N K k)
      (λ b. omega (
        arith,
        side-no-gives b n,
        join-gives k (used N (joins N K k) b n) (sources-long N K k wide known b n),
        sources-length N K k wide known b n l,
      )) (range 0 K)
      ∙ wanted-total

  -- so server n's query has no place of the wanted message twice, and none from N^K on
  pub wanted-apart : (v n : ℕ) → n < N → sum (hit k v) (rows N K k n) ≤ below v (N ^ K)
  wanted-apart v n l = omega (arith, wanted-once v, sum-part (λ m. sum (hit k v) (rows N K k m)) N n l)
