-- Digits without leading zero are the decimal digits of their value, and those of a number have no leading zero. So a text that begins
-- with a number begins with the digits of its value (`numeral-read`).
use mathlib.Core.Path.{◌≡◌, refl, sym, ap, ◌∙◌}
use mathlib.Core.Bool.{Bool, true, false, not, ◌&&◌, and-false}
use mathlib.Core.List.{List, [], ◌∷◌, ◌++◌, append-nil, append_assoc}
use Prim.Native.Nat.{ℕ, ◌+◌, ◌-◌, ◌*◌, ◌/◌, ◌%◌, ◌^◌, ◌≤◌, ◌<◌}
use native.Mathlib.Nat.{not-suc-le-zero, pow-le-pow_right}
use native.Mathlib.Omega.{arith}
use borrow.Author.Tests.{leb-true, ltb-true, ltb-false, lt-ltb, le-ltb, ne_eqb, eqb-false, not-true}
use lib.Dec.{leb, ltb, eqb}
use lib.ListN.{length, take, drop, get_or, take-append-drop, get_or-append}
use lib.Seq.{length-take-le, get_or-take}
use Rattle.lists.specs.Sums.{all_nil, all_cons}
use Rattle.lists.proofs.Both.{both_true}
use Rattle.text_lines.specs.Decimal.{digit, decimal, digit_count, value_from}
use Rattle.text_lines.specs.Lines.{leading_zero, is_numeral}
use Rattle.text_lines.proofs.DigitTexts.{Digits, digit-range, digits-first, count-within}
use Rattle.text_lines.proofs.Decimal.{decimal-small, decimal-large, length-small, some-digits, first-digit, below_power}

pub no-leading-zero : (n : ℕ) (rest : List ℕ) → leading_zero (length (decimal n)) (decimal n ++ rest) ≡ false
no-leading-zero n rest = go (ltb n 10) refl
  where
    go : (t : Bool) → ltb n 10 ≡ t → leading_zero (length (decimal n)) (decimal n ++ rest) ≡ false
    go true e = simp (le-ltb 1 (length (decimal n)) (let l = length-small n (ltb-true n 10 e) in omega arith))
    go false e =
        let first : get_or (decimal n ++ rest) 0 0 ≡ get_or (decimal n) 0 0 = get_or-append (decimal n) rest 0 0 (some-digits n) in
        let h = ltb-false n 10 e in
        let high = first-digit n (omega arith) in
        let other : get_or (decimal n ++ rest) 0 0 ≡ 48 → ⊥ = λ same. let w : ⊥ = omega arith in w in
        simp (ne_eqb (get_or (decimal n ++ rest) 0 0) 48 other, and-false)

-- ---- from digits to their value and back

after_front : (front : ℕ) {xs : List ℕ} → 0 < front → Digits xs → decimal (value_from front xs) ≡ decimal front ++ xs
unfolding value_from
after_front front h all_nil = sym (append-nil (decimal front))
after_front front h (all_cons {x = x} {xs = xs} d ds) =
    let range = digit-range x d in
    let next = front * 10 + (x - 48) in
    let high : 10 ≤ next = omega arith in
    let same-front : next / 10 ≡ front = omega arith in
    let same-digit : digit (next % 10) ≡ x = omega arith in
    let made : decimal next ≡ decimal front ++ (x ∷ []) = decimal-large next high ∙ rw (same-front, same-digit) in
    after_front next (omega arith) ds ∙ ap (λ (l : List ℕ). l ++ xs) made ∙ append_assoc (decimal front) (x ∷ []) xs

first-is : (x : ℕ) → 48 ≤ x → x ≤ 57 → decimal (0 * 10 + (x - 48)) ≡ x ∷ []
first-is x h k =
    decimal-small (0 * 10 + (x - 48)) (omega arith) ∙ ap (λ (y : ℕ). y ∷ []) (let e : digit (0 * 10 + (x - 48)) ≡ x = omega arith in e)

pub decimal-value : {xs : List ℕ} → Digits xs → 1 ≤ length xs → leading_zero (length xs) xs ≡ false → decimal (value_from 0 xs) ≡ xs
unfolding value_from
decimal-value all_nil h e = absurd (not-suc-le-zero h)
decimal-value (all_cons {x = x} d all_nil) h e = let r = digit-range x d in first-is x r.0 r.1
decimal-value (all_cons {x = x} d (all_cons {x = y} {xs = xs} f ds)) h e =
    let r = digit-range x d in
    let two : ltb 1 (length (x ∷ (y ∷ xs))) ≡ true = lt-ltb 1 (length (x ∷ (y ∷ xs))) (omega arith) in
    let other : eqb x 48 ≡ false = rw two at e in
    let no48 = eqb-false x 48 other in
    let above : 48 < x = omega arith in
    after_front (0 * 10 + (x - 48)) (omega arith) (all_cons f ds) ∙ ap (λ (l : List ℕ). l ++ (y ∷ xs)) (first-is x r.0 r.1)

-- ---- a text that begins with a number of at most `most` digits

pub record NumeralRead (most : ℕ) (text : List ℕ) (n : ℕ) : Type 0 where
  pub below : n < 10 ^ most
  pub many : length (decimal n) ≡ digit_count text
  pub here : text ≡ decimal n ++ drop (digit_count text) text

pub numeral-read : (most : ℕ) (text : List ℕ) → is_numeral most (digit_count text) text ≡ true
    → NumeralRead most text (value_from 0 (take (digit_count text) text))
unfolding is_numeral
numeral-read most text e =
    let count = digit_count text in
    let first = take count text in
    let n = value_from 0 first in
    let r = both_true (leb 1 count) (leb count most && not (leading_zero count text)) e in
    let s = both_true (leb count most) (not (leading_zero count text)) r.1 in
    let some : 1 ≤ count = leb-true 1 count r.0 in
    let few : count ≤ most = leb-true count most s.0 in
    let long : length first ≡ count = length-take-le count text (count-within text) in
    let same_first : get_or first 0 0 ≡ get_or text 0 0 = get_or-take count text 0 0 (omega arith) in
    let plain : leading_zero (length first) first ≡ false = rw (long, same_first) (not-true (leading_zero count text) s.1) in
    let written : decimal n ≡ first = decimal-value (digits-first text) (omega arith) plain in
    let many : length (decimal n) ≡ count = ap length written ∙ long in
    let power : 10 ^ length (decimal n) ≤ 10 ^ most = pow-le-pow_right {n = 10} (omega arith) {i = length (decimal n)} {j = most} (omega arith) in
    let small = below_power n in
    record {
      below = omega arith;
      many = many;
      here = sym (take-append-drop count text) ∙ ap (λ (l : List ℕ). l ++ drop count text) (sym written);
    }
