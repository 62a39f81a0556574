-- Texts of digits (`Digits`): how many a text begins with (`digits-first`, `count-digits`), and their value (`value-append`).
use mathlib.Core.Path.{◌≡◌, refl, sym, ap, ◌∙◌}
use mathlib.Core.Bool.{Bool, true, false, cond}
use mathlib.Core.List.{List, [], ◌∷◌, ◌++◌}
use Prim.Native.Nat.{ℕ, suc, ◌+◌, ◌-◌, ◌*◌, ◌≤◌, ◌<◌}
use native.Mathlib.Numerals.{add-one}
use native.Mathlib.Omega.{arith}
use borrow.Author.Tests.{leb-true, le-leb, lt-leb}
use lib.Dec.{leb}
use lib.ListN.{length, get_or, take, drop}
use lib.Seq.{drop-cons, take-length}
use Rattle.lists.specs.Sums.{All, all_nil, all_cons}
use Rattle.lists.proofs.Both.{both_true}
use Rattle.text_lines.specs.Decimal.{digit, is_digit, digit_count, value_from}

-- ---- one digit

pub is_digit_lem : (byte : ℕ) → 48 ≤ byte → byte ≤ 57 → is_digit byte ≡ true
is_digit_lem byte h k = simp (le-leb 48 byte h, le-leb byte 57 k)

pub below-digits : (byte : ℕ) → byte < 48 → is_digit byte ≡ false
below-digits byte h = simp (lt-leb 48 byte h)

pub above-digits : (byte : ℕ) → 57 < byte → is_digit byte ≡ false
above-digits byte h = let k : 48 ≤ byte = omega arith in simp (le-leb 48 byte k, lt-leb byte 57 h)

pub digit-is : (n : ℕ) → n < 10 → is_digit (digit n) ≡ true
digit-is n h = is_digit_lem (digit n) (omega arith) (omega arith)

pub digit-range : (byte : ℕ) → is_digit byte ≡ true → (48 ≤ byte) × (byte ≤ 57)
digit-range byte e =
    let p = both_true (leb 48 byte) (leb byte 57) e in (leb-true 48 byte p.0, leb-true byte 57 p.1)

-- ---- a text of digits alone

abbrev pub Digits : List ℕ → Type 0
Digits = All (λ byte. is_digit byte ≡ true)

-- those that a text begins with
pub digits-first : (text : List ℕ) → Digits (take (digit_count text) text)
unfolding digit_count
digits-first [] = all_nil
digits-first (x ∷ text) = go (is_digit x) refl (digits-first text)
  where
    go : (t : Bool) → is_digit x ≡ t → Digits (take (digit_count text) text) → Digits (take (digit_count (x ∷ text)) (x ∷ text))
    go true e rest = rw e (all_cons e rest)
    go false e rest = rw e all_nil

pub count-within : (text : List ℕ) → digit_count text ≤ length text
unfolding digit_count
count-within [] = omega arith
count-within (x ∷ text) = go (is_digit x) (count-within text)
  where
    go : (t : Bool) → digit_count text ≤ length text → cond t (suc (digit_count text)) 0 ≤ suc (length text)
    go true h = omega arith
    go false h = omega arith

-- a text that has as many as it is long
pub all_digits : (text : List ℕ) → digit_count text ≡ length text → Digits text
all_digits text e = rw (e, take-length) at (digits-first text)

-- digits, and then another byte
pub count-digits : {xs : List ℕ} → Digits xs → (y : ℕ) (rest : List ℕ) → is_digit y ≡ false → digit_count (xs ++ (y ∷ rest)) ≡ length xs
unfolding digit_count
count-digits all_nil y rest e = simp e
count-digits (all_cons d ds) y rest e = simp d (ap suc (count-digits ds y rest e))

pub count-all : {xs : List ℕ} → Digits xs → digit_count xs ≡ length xs
unfolding digit_count
count-all all_nil = refl
count-all (all_cons d ds) = simp d (ap suc (count-all ds))

-- the digits that a text begins with, lent as a part
pub count-first : (text : List ℕ) (count : ℕ) → count ≡ digit_count text → digit_count (take count text) ≡ length (take count text)
count-first text count e =
    ap (λ (n : ℕ). digit_count (take n text)) e ∙ count-all (digits-first text) ∙ ap (λ (n : ℕ). length (take n text)) (sym e)

-- ---- byte by byte

pub step : (text : List ℕ) (i : ℕ) → i < length text → drop i text ≡ get_or text i 0 ∷ drop (i + 1) text
step text i h = drop-cons text i 0 h ∙ ap (λ (n : ℕ). get_or text i 0 ∷ drop n text) (sym (add-one i))

-- ---- their value

pub value-append : (front : ℕ) (xs ys : List ℕ) → value_from front (xs ++ ys) ≡ value_from (value_from front xs) ys
unfolding value_from
value-append front [] ys = refl
value-append front (x ∷ xs) ys = value-append (front * 10 + (x - 48)) xs ys

pub value-last : (front n : ℕ) → value_from front (digit n ∷ []) ≡ front * 10 + n
unfolding value_from
value-last front n = omega arith
