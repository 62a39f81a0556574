-- Ranges: their length and entries (`range_length`, `range_at`), a range in two parts (`range-append`), and what holds of each number of
-- one (`All-range`).
use Prim.Native.Nat.{ℕ, zero, suc, ◌+◌, ◌-◌, ◌≤◌, ◌<◌}
use native.Mathlib.Nat.{zero-add, add-zero, add-suc, suc-add, not-suc-le-zero}
use native.Mathlib.Omega.{arith}
use mathlib.Core.Path.{◌≡◌, refl, sym, ap, ◌∙◌}
use mathlib.Core.List.{[], ◌∷◌, ◌++◌}
use lib.ListN.{length, get_or}
use Rattle.lists.specs.Ranges.{range}
use Rattle.lists.specs.Sums.{All, all_nil, all_cons}

pub range_length : (a n : ℕ) → length (range a n) ≡ n
unfolding range
range_length a zero = refl
range_length a (suc n) = ap suc (range_length (suc a) n)

pub range_at : (a n i d : ℕ) → i < n → get_or (range a n) i d ≡ a + i
unfolding range
range_at a zero i d h = absurd (not-suc-le-zero h)
range_at a (suc n) zero d h = sym (add-zero a)
range_at a (suc n) (suc i) d h = range_at (suc a) n i d (omega arith) ∙ omega arith

pub range-append : (a m n : ℕ) → range a m ++ range (a + m) n ≡ range a (m + n)
unfolding range
range-append a zero n = rw (add-zero a, zero-add n)
range-append a (suc m) n = rw (add-suc a m, ← suc-add a m, suc-add m n) (ap (λ l. a ∷ l) (range-append (suc a) m n))

-- one number more
pub range-next : (n : ℕ) → range 0 (suc n) ≡ range 0 n ++ (n ∷ [])
unfolding range
range-next n =
    ap (range 0) (let more : suc n ≡ n + 1 = omega arith in more) ∙ sym (range-append 0 n 1) ∙ ap (λ from. range 0 n ++ (from ∷ [])) (zero-add n)

-- the numbers below n, with one below it in the middle
pub range-around : (n i : ℕ) → i < n → range 0 n ≡ range 0 i ++ (i ∷ range (suc i) (n - suc i))
unfolding range
range-around n i h =
    ap (range 0) (let parts : n ≡ i + suc (n - suc i) = omega arith in parts)
    ∙ sym (range-append 0 i (suc (n - suc i)))
    ∙ ap (λ s. range 0 i ++ range s (suc (n - suc i))) (zero-add i)

module _ {P : ℕ → Type 0} where
  pub All-from : (a n : ℕ) → ((i : ℕ) → a ≤ i → i < a + n → P i) → All P (range a n)
  unfolding range
  All-from a zero h = all_nil
  All-from a (suc n) h = all_cons (h a (omega arith) (omega arith)) (All-from (suc a) n (λ i l u. h i (omega arith) (omega arith)))

  pub All-range : (n : ℕ) → ((i : ℕ) → i < n → P i) → All P (range 0 n)
  All-range n h = All-from 0 n (λ i l u. h i (omega arith))
