-- What the servers make in a block, by counting: the sets of a block (`sets-fit`), each server's side rows (`side-lacks`, `side-length`)
-- and the rows that its wanted rows are joined from (`sources-lack`, `sources-length`), and what is used at the next turn (`used-next`).
use Prim.Native.Nat.{ℕ, zero, suc, ◌+◌, ◌*◌, ◌-◌, ◌^◌, ◌<◌}
use native.Mathlib.Nat.{zero-add, mul-zero, zero-mul, mul-one, mul_assoc, mul-add, suc-mul, pow-succ', pow-zero}
use native.Mathlib.Omega.{arith}
use mathlib.Core.Path.{◌≡◌, refl, sym, ap, ◌∙◌}
use mathlib.Core.List.{List, [], ◌∷◌, ◌++◌, map, flat_map}
use mathlib.Core.Bool.{Bool, true, false, not}
use mathlib.Core.Option.{none}
use borrow.Author.Tests.{not-true}
use lib.ListN.{length, get_or, replicate, length-replicate, get_or-replicate}
use Rattle.lists.specs.Sums.{bit, keep, sum, All, all_nil, all_cons}
use Rattle.lists.specs.Ranges.{range}
use Rattle.lists.proofs.Mapped.{mapped-length, mapped_at}
use Rattle.lists.proofs.Sums.{sum-mul, sum-ext, sum_one, sum-flat_map, sum-keep, sum-next, sum-replicate, sum_same}
use Rattle.lists.proofs.Each.{All-append, All-map, All-imp, All-flatMap, All-every, All-replicate, All-keep}
use Rattle.lists.proofs.Replicate.{get_or-replicate-same}
use Rattle.even_places.specs.Rule.{has, ones_in, sets, number, others, side_sets, is_some}
use Rattle.even_places.specs.Counting.{with, used, side_rows, sources, joins, wanted_rows}
use Rattle.even_places.proofs.Choose.{none-not}
use Rattle.even_places.proofs.Rows.{somes, Lacks, SetLacks, Fits, number-lacks, number-length, join-fits, others-sum}

-- every set of `sets K b` has b of K messages
pub sets-fit : (K b : ℕ) → All (λ A. (length A ≡ K) × (ones_in A ≡ b)) (sets K b)
unfolding sets ones_in sum bit
sets-fit zero zero = all_cons (refl, refl) all_nil
sets-fit zero (suc b) = all_nil
sets-fit (suc K) zero = All-map (λ A. false ∷ A) (All-imp (λ A h. (ap suc h.0, zero-add (ones_in A) ∙ h.1)) (sets-fit K zero))
sets-fit (suc K) (suc b) =
    All-append
    (All-map (λ A. true ∷ A) (All-imp (λ A h. (ap suc h.0, omega (arith, h.1))) (sets-fit K b)))
    (All-map (λ A. false ∷ A) (All-imp (λ A h. (ap suc h.0, zero-add (ones_in A) ∙ h.1)) (sets-fit K (suc b))))

pub up : (n : ℕ) → 0 < n → suc (n - 1) ≡ n
up n h = omega arith

pub sets-zero : (K : ℕ) → sets K 0 ≡ replicate K false ∷ []
unfolding sets
sets-zero zero = refl
sets-zero (suc K) = ap (map (λ A. false ∷ A)) (sets-zero K)

pub has-none : (K p : ℕ) → has p (replicate K false) ≡ false
unfolding has
has-none K p = get_or-replicate-same K p false

-- what is used at the next server's turn, and at the next block's
module _ (N : ℕ) (f : ℕ → ℕ) where
  pub used-next : (b n : ℕ) → used N f b (suc n) ≡ used N f b n + f b
  unfolding used
  used-next b n = omega (arith, suc-mul n (f b))

  pub used_all : (b : ℕ) → used N f b 0 ≡ N * sum f (range 0 b)
  unfolding used
  used_all b = omega (arith, zero-mul (f b))

  pub used_over : (b : ℕ) → used N f (suc b) 0 ≡ used N f b N
  unfolding used
  used_over b = omega (arith, zero-mul (f (suc b)), ap (λ s. N * s) (sum-next f b), mul-add N (sum f (range 0 b)) (f b))

module _ (N K k : ℕ) (wide : 1 < N) (known : k < K) where
  pub lone-lacks : (b : ℕ) → All (SetLacks K k (suc b)) (keep (λ A. not (has k A)) (sets K (suc b)))
  lone-lacks b =
      All-imp (λ A h. record { long = h.0.0; many = h.0.1; lack = not-true (has k A) h.1 }) (All-keep (λ A. not (has k A)) (sets-fit K (suc b)))

  pub side_sets-lack : (b : ℕ) → All (SetLacks K k (suc b)) (side_sets N K k b)
  unfolding side_sets
  side_sets-lack b = All-flatMap (replicate ((N - 1) ^ b)) (All-imp (λ A h. All-replicate ((N - 1) ^ b) A h) (lone-lacks b))

  unfoldable pub fresh : ℕ → ℕ → ℕ
  fresh p b = with p (side_sets N K k b)

  unfoldable pub starts : ℕ → ℕ → List ℕ
  starts b n = map (λ p. used N (fresh p) b n) (range 0 K)

  pub starts-length : (b n : ℕ) → length (starts b n) ≡ K
  unfolding starts
  starts-length b n = mapped-length (λ p. used N (fresh p) b n) 0 K

  pub starts-at : (p b n : ℕ) → p < K → get_or (starts b n) p 0 ≡ used N (fresh p) b n
  unfolding starts
  starts-at p b n h = mapped_at (λ q. used N (fresh q) b n) 0 K p h

  pub side-is : (b n : ℕ) → side_rows N K k b n ≡ number (starts b n) (side_sets N K k b)
  unfolding side_rows starts fresh
  side-is b n = refl

  pub side-lacks : (b n : ℕ) → All (Lacks K k (suc b)) (side_rows N K k b n)
  side-lacks b n = rw (side-is b n) (number-lacks K k (suc b) (starts b n) (starts-length b n) (side_sets-lack b))

  pub side-length : (b n : ℕ) → length (side_rows N K k b n) ≡ length (side_sets N K k b)
  side-length b n = rw (side-is b n) (number-length (starts b n) (side_sets N K k b))

  pub sources-lack : (b n : ℕ) → All (Lacks K k b) (sources N K k b n)
  unfolding sources is_some bit somes
  sources-lack zero n = all_cons (record { long = length-replicate K none; many = empty; lack = get_or-replicate K k none none known }) all_nil
    where
      empty : somes (replicate K none) ≡ 0
      empty = sum-replicate (λ o. bit (is_some o)) K none ∙ mul-zero K
  sources-lack (suc b) n = All-flatMap (side_rows N K k b) (All-every (side-lacks b) (others N n))

  wanted-fits : (b n : ℕ) → All (Fits K (suc b)) (wanted_rows N K k b n)
  unfolding wanted_rows
  wanted-fits b n = join-fits K k b (used N (joins N K k) b n) known (sources-lack b n)

  pub block-fits : (b n : ℕ) → All (Fits K (suc b)) (side_rows N K k b n ++ wanted_rows N K k b n)
  block-fits b n = All-append (All-imp (λ r l. record { long = l.long; many = l.many }) (side-lacks b n)) (wanted-fits b n)

  pub side_sets-sum : (f : List Bool → ℕ) (b : ℕ) → sum f (side_sets N K k b) ≡ (N - 1) ^ b * sum (λ A. bit (not (has k A)) * f A) (sets K (suc b))
  unfolding side_sets
  side_sets-sum f b =
      sum-flat_map f (replicate ((N - 1) ^ b)) (keep (λ A. not (has k A)) (sets K (suc b)))
      ∙ sum-ext (λ A. sum f (replicate ((N - 1) ^ b) A)) (λ A. (N - 1) ^ b * f A) (λ A. sum-replicate f ((N - 1) ^ b) A)
      (keep (λ A. not (has k A)) (sets K (suc b)))
      ∙ sum-mul ((N - 1) ^ b) f (keep (λ A. not (has k A)) (sets K (suc b)))
      ∙ ap (λ s. (N - 1) ^ b * s) (sum-keep f (λ A. not (has k A)) (sets K (suc b)))

  pub side_sets-length : (b : ℕ) → length (side_sets N K k b) ≡ (N - 1) ^ b * sum (λ A. bit (not (has k A))) (sets K (suc b))
  side_sets-length b =
      sym (sum_one (side_sets N K k b))
      ∙ side_sets-sum (λ A. 1) b
      ∙ ap (λ s. (N - 1) ^ b * s) (sum-ext (λ A. bit (not (has k A)) * 1) (λ A. bit (not (has k A))) (λ A. mul-one (bit (not (has k A)))) (sets K (suc b)))

  pub joins-is : (b : ℕ) → joins N K k b ≡ (N - 1) ^ b * sum (λ A. bit (not (has k A))) (sets K b)
  unfolding joins
  joins-is zero = sym (rw (pow-zero (N - 1), none-not K k))
  joins-is (suc b) =
      ap (λ s. (N - 1) * s) (side_sets-length b)
      ∙ sym (mul_assoc (N - 1) ((N - 1) ^ b) (sum (λ A. bit (not (has k A))) (sets K (suc b))))
      ∙ ap (λ s. s * sum (λ A. bit (not (has k A))) (sets K (suc b))) (sym (pow-succ' (N - 1) b))

  pub sources-length : (b n : ℕ) → n < N → length (sources N K k b n) ≡ joins N K k b
  unfolding joins sources
  sources-length zero n l = refl
  sources-length (suc b) n l =
      sym (sum_one (flat_map (side_rows N K k b) (others N n)))
      ∙ sum-flat_map (λ r. 1) (side_rows N K k b) (others N n)
      ∙ sum-ext (λ m. sum (λ r. 1) (side_rows N K k b m)) (λ m. length (side_sets N K k b)) (λ m. sum_one (side_rows N K k b m) ∙ side-length b m) (others N n)
      ∙ omega (
        arith,
        others-sum (λ m. length (side_sets N K k b)) N n l,
        sum_same (length (side_sets N K k b)) N,
        suc-mul (N - 1) (length (side_sets N K k b)),
        ap (λ s. s * length (side_sets N K k b)) (up N (omega arith)),
      )

  pub sources-long : (b n : ℕ) → All (λ r. k < length r) (sources N K k b n)
  sources-long b n = All-imp (λ r h. omega (arith, h.long)) (sources-lack b n)
