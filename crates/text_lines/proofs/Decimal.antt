-- The decimal digits of a number: how they are made (`decimal-small`, `decimal-large`), how many they are (`length_most`), and that their
-- value is the number (`value-decimal`). All by `by_digits`: a property of the small numbers that passes from n / 10 to n.
use mathlib.Core.Path.{◌≡◌, refl, ap, ◌∙◌}
use mathlib.Core.Bool.{Bool, true, false}
use mathlib.Core.List.{List, [], ◌∷◌, ◌++◌}
use Prim.Native.Nat.{ℕ, zero, suc, ◌+◌, ◌*◌, ◌/◌, ◌%◌, ◌^◌, ◌≤◌, ◌<◌}
use native.Mathlib.Nat.{not-suc-le-zero, pow-suc}
use native.Mathlib.Numerals.{add-one}
use native.Mathlib.Omega.{arith}
use borrow.Author.Tests.{ltb-true, ltb-false, lt-ltb, le-ltb}
use lib.Dec.{ltb}
use lib.ListN.{length, get_or, length-append, get_or-append}
use Rattle.lists.specs.Sums.{all_nil, all_cons}
use Rattle.lists.proofs.Each.{All-append}
use Rattle.text_lines.specs.Decimal.{digit, decimal_in, decimal, value_from}
use Rattle.text_lines.proofs.DigitTexts.{Digits, digit-is, value-append, value-last}

-- ---- how they are made

enough-places : (p q n : ℕ) → n < p → n < q → decimal_in p n ≡ decimal_in q n
unfolding decimal_in
enough-places zero q n h k = absurd (not-suc-le-zero h)
enough-places (suc p) zero n h k = absurd (not-suc-le-zero k)
enough-places (suc p) (suc q) n h k = go (ltb n 10) refl (λ big. enough-places p q (n / 10) (omega arith) (omega arith))
  where
    go : (t : Bool) → ltb n 10 ≡ t → (10 ≤ n → decimal_in p (n / 10) ≡ decimal_in q (n / 10)) → decimal_in (suc p) n ≡ decimal_in (suc q) n
    go true e same = simp e
    go false e same = simp e (ap (λ (l : List ℕ). l ++ (digit (n % 10) ∷ [])) (same (ltb-false n 10 e)))

pub decimal-small : (n : ℕ) → n < 10 → decimal n ≡ digit n ∷ []
unfolding decimal decimal_in
decimal-small n h = simp (lt-ltb n 10 h)

pub decimal-large : (n : ℕ) → 10 ≤ n → decimal n ≡ decimal (n / 10) ++ (digit (n % 10) ∷ [])
unfolding decimal decimal_in
decimal-large n h =
    simp (le-ltb n 10 h)
    (ap (λ (l : List ℕ). l ++ (digit (n % 10) ∷ [])) (enough-places n (suc (n / 10)) (n / 10) (omega arith) (omega arith)))

-- a property of all numbers, by their digits
module _ (P : ℕ → Type 0) (small : (n : ℕ) → n < 10 → P n) (large : (n : ℕ) → 10 ≤ n → P (n / 10) → P n) where
  by_first : (n : ℕ) (t : Bool) → ltb n 10 ≡ t → (10 ≤ n → P (n / 10)) → P n
  by_first n true e front = small n (ltb-true n 10 e)
  by_first n false e front = let h = ltb-false n 10 e in large n h (front h)

  by-bound : (bound n : ℕ) → n < bound → P n
  by-bound zero n h = absurd (not-suc-le-zero h)
  by-bound (suc bound) n h = by_first n (ltb n 10) refl (λ k. by-bound bound (n / 10) (omega arith))

  pub by_digits : (n : ℕ) → P n
  by_digits n = by-bound (suc n) n (omega arith)

-- ---- how many they are

pub length-small : (n : ℕ) → n < 10 → length (decimal n) ≡ 1
length-small n h = ap length (decimal-small n h)

pub length-large : (n : ℕ) → 10 ≤ n → length (decimal n) ≡ length (decimal (n / 10)) + 1
length-large n h = ap length (decimal-large n h) ∙ length-append (decimal (n / 10)) (digit (n % 10) ∷ [])

pub some-digits : (n : ℕ) → 1 ≤ length (decimal n)
some-digits =
    by_digits (λ n. 1 ≤ length (decimal n))
    (λ n h. let e = length-small n h in omega arith)
    (λ n h _. let e = length-large n h in omega arith)

-- at most `places` digits
pub length_most : (places n : ℕ) → n < 10 ^ suc places → length (decimal n) ≤ suc places
length_most zero n h = let e = length-small n (omega arith) in omega arith
length_most (suc places) n h = go (ltb n 10) refl (λ k. length_most places (n / 10) k)
  where
    power : 10 ^ suc (suc places) ≡ 10 ^ suc places * 10
    power = pow-suc 10 (suc places)

    go : (t : Bool) → ltb n 10 ≡ t → (n / 10 < 10 ^ suc places → length (decimal (n / 10)) ≤ suc places) → length (decimal n) ≤ suc (suc places)
    go true e front = let l = length-small n (ltb-true n 10 e) in omega arith
    go false e front =
        let l = length-large n (ltb-false n 10 e) in
        let below : n / 10 < 10 ^ suc places = omega arith in
        let f = front below in
        omega arith

pub length-within : (most n : ℕ) → 0 < most → n < 10 ^ most → length (decimal n) ≤ most
length-within zero n some h = absurd (not-suc-le-zero some)
length-within (suc places) n some h = length_most places n h

-- a number is below the power of its digits
pub below_power : (n : ℕ) → n < 10 ^ length (decimal n)
below_power = by_digits (λ n. n < 10 ^ length (decimal n)) small large
  where
    small : (n : ℕ) → n < 10 → n < 10 ^ length (decimal n)
    small n h = rw (length-small n h) h

    large : (n : ℕ) → 10 ≤ n → n / 10 < 10 ^ length (decimal (n / 10)) → n < 10 ^ length (decimal n)
    large n h k = rw (length-large n h, add-one, pow-suc) (omega arith)

-- ---- they are digits, and the first is not 0 but in `0`

pub decimal-digits : (n : ℕ) → Digits (decimal n)
decimal-digits = by_digits (λ n. Digits (decimal n)) small large
  where
    small : (n : ℕ) → n < 10 → Digits (decimal n)
    small n h = rw (decimal-small n h) (all_cons (digit-is n h) all_nil)

    large : (n : ℕ) → 10 ≤ n → Digits (decimal (n / 10)) → Digits (decimal n)
    large n h d = rw (decimal-large n h) (All-append d (all_cons (digit-is (n % 10) (omega arith)) all_nil))

pub first-digit : (n : ℕ) → 0 < n → 48 < get_or (decimal n) 0 0
first-digit = by_digits (λ n. 0 < n → 48 < get_or (decimal n) 0 0) small large
  where
    small : (n : ℕ) → n < 10 → 0 < n → 48 < get_or (decimal n) 0 0
    small n h k = rw (decimal-small n h) (omega arith)

    large : (n : ℕ) → 10 ≤ n → (0 < n / 10 → 48 < get_or (decimal (n / 10)) 0 0) → 0 < n → 48 < get_or (decimal n) 0 0
    large n h f k =
        let some = some-digits (n / 10) in
        rw (decimal-large n h, get_or-append (decimal (n / 10)) (digit (n % 10) ∷ []) 0 0 some) (f (omega arith))

-- ---- their value

pub value-decimal : (n : ℕ) → value_from 0 (decimal n) ≡ n
value-decimal = by_digits (λ n. value_from 0 (decimal n) ≡ n) small large
  where
    small : (n : ℕ) → n < 10 → value_from 0 (decimal n) ≡ n
    small n h = ap (value_from 0) (decimal-small n h) ∙ value-last 0 n ∙ omega arith

    large : (n : ℕ) → 10 ≤ n → value_from 0 (decimal (n / 10)) ≡ n / 10 → value_from 0 (decimal n) ≡ n
    large n h e =
        ap (value_from 0) (decimal-large n h) ∙ value-append 0 (decimal (n / 10)) (digit (n % 10) ∷ [])
        ∙ ap (λ (v : ℕ). value_from v (digit (n % 10) ∷ [])) e ∙ value-last (n / 10) (n % 10) ∙ omega arith
