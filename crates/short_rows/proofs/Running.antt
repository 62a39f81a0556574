-- The running sums of digits below N stay below N, and the last is the digits' sum modulo N (`stays-below`): adding a digit to a sum below N
-- gives the sum of both modulo N. One turn of the loop goes from one running sum to the next: `next-sum`.
use mathlib.Core.Bool.{Bool, true, false, cond}
use mathlib.Core.Path.{◌≡◌, refl, sym, ap, ◌∙◌}
use mathlib.Core.List.{List, [], ◌∷◌}
use Prim.Native.Nat.{ℕ, zero, suc, ◌+◌, ◌-◌, ◌%◌, ◌<◌}
use native.Mathlib.Nat.{add-zero, zero-add, zero-mod, not-suc-le-zero, le_of_suc-le-suc, mod-lt, mod-eq_of_lt, mod-add-mod}
use native.Mathlib.Numerals.{add-one}
use native.Mathlib.Omega.{arith}
use borrow.Author.Tests.{ltb-true, ltb-false}
use lib.Dec.{ltb}
use lib.ListN.{length, get_or}
use Rattle.lists.specs.Below.{all_below, Below}
use Rattle.lists.proofs.Below.{all_below-below, below-cons}
use Rattle.short_scheme.specs.Short.{digit_sum}
use Rattle.short_scheme.proofs.Digits.{once-around}
use Rattle.short_rows.specs.Running.{added, sums_from, running_sums, sum_after, StaysBelow}

-- without a division, the sum modulo N
pub added-modulo : (N sum d : ℕ) → sum < N → d < N → added N sum d ≡ (sum + d) % N
unfolding added
added-modulo N sum d s h = go (ltb d (N - sum)) refl
  where
    go : (t : Bool) → ltb d (N - sum) ≡ t → cond t (sum + d) (d - (N - sum)) ≡ (sum + d) % N
    go true e = sym (mod-eq_of_lt (let l = ltb-true d (N - sum) e in omega arith))
    go false e =
        let l = ltb-false d (N - sum) e in
        let r : d - (N - sum) ≡ sum + d - N = omega arith in
        r ∙ sym (once-around N (sum + d) (omega arith) (omega arith))

added-below : (N sum d : ℕ) → sum < N → d < N → added N sum d < N
added-below N sum d s h = let e = added-modulo N sum d s h in let m = mod-lt (sum + d) {m = N} (omega arith) in omega arith

-- computed: N is reached, passed by one, and missed by one
pub some-sums : running_sums 4 (3 ∷ 1 ∷ 3 ∷ 2 ∷ 2 ∷ 0 ∷ []) ≡ 0 ∷ 3 ∷ 0 ∷ 3 ∷ 1 ∷ 3 ∷ 3 ∷ []
unfolding added sums_from
some-sums = refl

counted : (N sum : ℕ) (digits : List ℕ) → length (sums_from N sum digits) ≡ suc (length digits)
unfolding sums_from
counted N sum [] = refl
counted N sum (d ∷ digits) = ap suc (counted N (added N sum d) digits)

each_below : (N sum : ℕ) (digits : List ℕ) → sum < N → Below N digits → Below N (sums_from N sum digits)
unfolding sums_from
each_below N sum [] s b = below-cons N sum [] s b
each_below N sum (d ∷ digits) s b =
    let h : d < N = b 0 (omega arith) in
    let rest : Below N digits = λ i k. b (suc i) (omega arith) in
    below-cons N sum (sums_from N (added N sum d) digits) s (each_below N (added N sum d) digits (added-below N sum d s h) rest)

-- the last running sum: what it began with and the digits, modulo N
last : (N sum : ℕ) (digits : List ℕ) → sum < N → Below N digits
    → get_or (sums_from N sum digits) (length digits) 0 ≡ (sum + digit_sum digits) % N
unfolding sums_from digit_sum
last N sum [] s b = sym (ap (λ (x : ℕ). x % N) (add-zero sum) ∙ mod-eq_of_lt s)
last N sum (d ∷ digits) s b =
    let h : d < N = b 0 (omega arith) in
    let rest : Below N digits = λ i k. b (suc i) (omega arith) in
    let all : sum + d + digit_sum digits ≡ sum + (d + digit_sum digits) = omega arith in
    last N (added N sum d) digits (added-below N sum d s h) rest
    ∙ ap (λ (x : ℕ). (x + digit_sum digits) % N) (added-modulo N sum d s h)
    ∙ mod-add-mod (sum + d) N (digit_sum digits)
    ∙ ap (λ (x : ℕ). x % N) all

-- the last of all; without a digit it is 0, whatever N is
pub last_sum : (N : ℕ) (digits : List ℕ) → all_below N digits ≡ true → sum_after N digits (length digits) ≡ digit_sum digits % N
unfolding sums_from digit_sum
last_sum N [] e = sym (zero-mod N)
last_sum N (d ∷ digits) e =
    let b = all_below-below N (d ∷ digits) e in
    let h : d < N = b 0 (omega arith) in
    last N 0 (d ∷ digits) (omega arith) b ∙ ap (λ (x : ℕ). x % N) (zero-add (digit_sum (d ∷ digits)))

pub stays-below : (N : ℕ) (digits : List ℕ) → 0 < N → all_below N digits ≡ true → StaysBelow N digits
stays-below N digits h e =
    record {
      counted = counted N 0 digits;
      below = each_below N 0 digits h (all_below-below N digits e);
      last = last_sum N digits e;
    }

pub first-sum : (N : ℕ) (digits : List ℕ) → sum_after N digits 0 ≡ 0
unfolding sums_from
first-sum N [] = refl
first-sum N (d ∷ digits) = refl

next : (N sum : ℕ) (digits : List ℕ) (i : ℕ) → i < length digits
    → get_or (sums_from N sum digits) (suc i) 0 ≡ added N (get_or (sums_from N sum digits) i 0) (get_or digits i 0)
unfolding sums_from
next N sum [] i h = absurd (not-suc-le-zero h)
next N sum (d ∷ []) zero h = refl
next N sum (d ∷ (x ∷ digits)) zero h = refl
next N sum (d ∷ digits) (suc i) h = next N (added N sum d) digits i (le_of_suc-le-suc h)

module _ (N : ℕ) (digits : List ℕ) (e : all_below N digits ≡ true) (i : ℕ) (h : i < length digits) where
  -- the running sum before a digit, and the one after it, are below N
  pub sums-below : (sum_after N digits i < N) × (sum_after N digits (i + 1) < N)
  sums-below =
      let d = all_below-below N digits e i h in
      let all = stays-below N digits (omega arith) e in
      let c = all.counted in
      (all.below i (omega arith), all.below (i + 1) (omega arith))

  -- from the one to the other
  pub next-sum : sum_after N digits (i + 1) ≡ (sum_after N digits i + get_or digits i 0) % N
  next-sum =
      rw (add-one) (next N 0 digits i h ∙ added-modulo N (sum_after N digits i) (get_or digits i 0) sums-below.0 (all_below-below N digits e i h))
