-- The other servers than n: the j-th is j below n and j + 1 from n on (`others-low`, `others-high`), and there are N - 1
-- (`others-length`).
use Prim.Native.Nat.{ℕ, suc, ◌+◌, ◌-◌, ◌≤◌, ◌<◌}
use native.Mathlib.Nat.{zero-add}
use native.Mathlib.Omega.{arith}
use mathlib.Core.Path.{◌≡◌, refl, ap, ◌∙◌}
use mathlib.Core.List.{◌∷◌, ◌++◌}
use mathlib.Core.Bool.{Bool, not}
use borrow.Author.Tests.{eq-eqb, ne_eqb}
use lib.ListN.{length, get_or, length-append, get_or-append}
use lib.Seq.{get_or-append-add}
use lib.Dec.{eqb}
use Rattle.lists.specs.Sums.{keep, keep_if, All}
use Rattle.lists.specs.Ranges.{range}
use Rattle.lists.proofs.Keep.{keep_all, keep_append}
use Rattle.lists.proofs.Ranges.{range_length, range_at, range-around, All-from, All-range}
use Rattle.lists.proofs.Each.{All-imp, All-keep}
use Rattle.even_places.specs.Rule.{others}

-- the other servers than n: those below it, then those above
others-is : (N n : ℕ) → n < N → others N n ≡ range 0 n ++ range (suc n) (N - suc n)
unfolding others keep keep_if range
others-is N n l =
    ap (keep t) (range-around N n l)
    ∙ keep_append t (range 0 n) (n ∷ range (suc n) (N - suc n))
    ∙ rw (
      keep_all t (All-from 0 n (λ m a h. ap not (ne_eqb m n (λ e. omega arith)))),
      eq-eqb n n refl,
      keep_all t (All-from (suc n) (N - suc n) (λ m a h. ap not (ne_eqb m n (λ e. omega arith)))),
    )
  where
    t : ℕ → Bool
    t m = not (eqb m n)

pub others-length : (N n : ℕ) → n < N → length (others N n) ≡ N - 1
others-length N n l =
    ap length (others-is N n l) ∙ length-append (range 0 n) (range (suc n) (N - suc n)) ∙ omega (arith, range_length 0 n, range_length (suc n) (N - suc n))

pub others-low : (N n j : ℕ) → n < N → j < n → get_or (others N n) j 0 ≡ j
others-low N n j l h =
    ap (λ s. get_or s j 0) (others-is N n l) ∙ get_or-append (range 0 n) (range (suc n) (N - suc n)) 0 j (omega (arith, range_length 0 n))
    ∙ range_at 0 n j 0 h ∙ zero-add j

pub others-high : (N n j : ℕ) → n < N → n ≤ j → j < N - 1 → get_or (others N n) j 0 ≡ suc j
others-high N n j l h g =
    ap (λ s. get_or s j 0) (others-is N n l)
    ∙ ap (λ i. get_or (range 0 n ++ range (suc n) (N - suc n)) i 0) split
    ∙ get_or-append-add (range 0 n) (range (suc n) (N - suc n)) (j - n) 0
    ∙ range_at (suc n) (N - suc n) (j - n) 0 (omega arith)
    ∙ omega arith
  where
    split : j ≡ length (range 0 n) + (j - n)
    split = omega (arith, range_length 0 n)

pub others_below : (N n : ℕ) → All (λ m. m < N) (others N n)
unfolding others
others_below N n = All-imp (λ m h. h.0) (All-keep (λ m. not (eqb m n)) (All-range N (λ m h. h)))
