-- Reading a list of numbers: where a number lies (`numeral-within`), and what stands after it decides (`at_last`, `at_more`, `at_other`).
-- A list with a number in it has its first one at the start (`first-number`).
use mathlib.Core.Path.{◌≡◌, refl, sym, ap, ◌∙◌}
use mathlib.Core.Bool.{Bool, true, false, cond}
use mathlib.Core.List.{List, [], ◌∷◌}
use mathlib.Core.Option.{Option, none, some}
use Prim.Native.Nat.{ℕ, zero, suc, ◌+◌, ◌-◌, ◌≤◌, ◌<◌}
use native.Mathlib.Nat.{not-suc-le-zero}
use native.Mathlib.Omega.{arith}
use borrow.Author.Tests.{leb-true}
use lib.Dec.{leb, eqb}
use lib.ListN.{length, take, drop, get_or, length-drop, drop_of_length-le}
use Rattle.lists.proofs.Both.{both_true}
use Rattle.text_lines.specs.declared.Line.{Line}
use Rattle.std.specs.Prelude.{Some, None, Option as Found}
use Rattle.std.proofs.lemmas.Option.{none-some as not-found}
use Rattle.text_lines.proofs.Taken.{passed}
use Rattle.text_lines.specs.Decimal.{digit_count, value_from}
use Rattle.text_lines.specs.Lines.{is_numeral, line_of}
use Rattle.text_lines.proofs.DigitTexts.{count-within}
use Rattle.number_lists.specs.NumberLists.{on_number, numeral_from, numeral_at, ends_at, before, numbers_from, numbers_at, list_of}

-- ---- one number

some-digits : (count : ℕ) (text : List ℕ) → is_numeral 5 count text ≡ true → 1 ≤ count
unfolding is_numeral
some-digits count text e = leb-true 1 count (both_true (leb 1 count) _ e).0

-- a number lies within its text
pub numeral-within : (text : List ℕ) (at n end : ℕ) → numeral_at text at ≡ Some (line_of n end) → (at < end) × (end ≤ length text)
unfolding numeral_from
numeral-within text at n end e = go (is_numeral 5 (digit_count rest) rest) refl e
  where
    rest : List ℕ
    rest = drop at text

    go : (t : Bool) → is_numeral 5 (digit_count rest) rest ≡ t
        → cond t (Some (line_of (value_from 0 (take (digit_count rest) rest)) (at + digit_count rest))) None ≡ Some (line_of n end) → (at < end) × (end ≤ length text)
    go true f g =
        let p = (passed true _ n (at + digit_count rest) end g).2 in
        let s = some-digits (digit_count rest) rest f in
        let w = count-within rest in
        let l : length rest ≡ length text - at = length-drop at text in
        (omega arith, omega arith)
    go false f g = absurd (not-found (line_of n end) g)

-- past the end there is none
pub numeral-past : (text : List ℕ) (at : ℕ) → length text ≤ at → numeral_at text at ≡ None
unfolding numeral_from digit_count is_numeral
numeral-past text at h = simp (drop_of_length-le text {i = at} h)

-- ---- from number to number

pub at_none : (most : ℕ) (text : List ℕ) (at : ℕ) → numeral_at text at ≡ None → numbers_from most text at ≡ none
unfolding numbers_from
at_none zero text at e = refl
at_none (suc most) text at e = rw e

module _ (most : ℕ) (text : List ℕ) (at n end : ℕ) (e : numeral_at text at ≡ Some (line_of n end)) where
  pub at_last : ends_at text end ≡ true → numbers_from (suc most) text at ≡ some (n ∷ [])
  unfolding numbers_from
  at_last f = rw (e, f)

  pub at_more : ends_at text end ≡ false → eqb (get_or text end 0) 32 ≡ true
      → numbers_from (suc most) text at ≡ before n (numbers_from most text (end + 1))
  unfolding numbers_from
  at_more f g = rw (e, f, g)

  pub at_other : ends_at text end ≡ false → eqb (get_or text end 0) 32 ≡ false → numbers_from (suc most) text at ≡ none
  unfolding numbers_from
  at_other f g = rw (e, f, g)

-- ---- what numbers that were read say of the text

-- the first number stands at the place, and the next ones after a byte
pub record First (most : ℕ) (text : List ℕ) (at x : ℕ) (rest : List ℕ) : Type 0 where
  pub end : ℕ
  pub found : numeral_at text at ≡ Some (line_of x end)
  pub later : 0 < length rest → numbers_from most text (end + 1) ≡ some rest

none-some : {A : Type 0} {l : List ℕ} → none ≡ some l → A
none-some e = let z : ◌≡◌ {A = ℕ} 0 1 = cc in absurd (let w : ⊥ = omega arith in w)

pub some_left : (most : ℕ) (text : List ℕ) (at : ℕ) (numbers : List ℕ) → numbers_from most text at ≡ some numbers → 0 < most
unfolding numbers_from
some_left zero text at numbers e = none-some e
some_left (suc most) text at numbers e = omega arith

module _ (most : ℕ) (text : List ℕ) (at x : ℕ) (rest : List ℕ) where
  by-rest : (n end : ℕ) → numeral_at text at ≡ Some (line_of n end) → (o : Option (List ℕ)) → numbers_from most text (end + 1) ≡ o
      → before n o ≡ some (x ∷ rest) → First most text at x rest
  by-rest n end f none g e = none-some e
  by-rest n end f (some numbers) g e =
      let same : n ≡ x = cc in
      let others : numbers ≡ rest = cc in
      record { end = end; found = f ∙ ap (λ (m : ℕ). Some (line_of m end)) same; later = λ h. g ∙ ap some others }

  by_end : (n end : ℕ) → numeral_at text at ≡ Some (line_of n end) → (t u : Bool)
      → cond t (some (n ∷ [])) (cond u (before n (numbers_from most text (end + 1))) none) ≡ some (x ∷ rest) → First most text at x rest
  by_end n end f true u e =
      let same : n ≡ x = cc in
      let over : [] ≡ rest = cc in
      record { end = end; found = f ∙ ap (λ (m : ℕ). Some (line_of m end)) same; later = λ h. absurd (not-suc-le-zero (rw (sym over) at h)) }
  by_end n end f false true e = by-rest n end f (numbers_from most text (end + 1)) refl e
  by_end n end f false false e = none-some e

  pub first-number : numbers_from (suc most) text at ≡ some (x ∷ rest) → First most text at x rest
  unfolding numbers_from
  first-number e = go (numeral_at text at) refl e
    where
      go : (line : Found (Line ℕ)) → numeral_at text at ≡ line
          → on_number line (λ n end. cond (ends_at text end) (some (n ∷ []))
          (cond (eqb (get_or text end 0) 32) (before n (numbers_from most text (end + 1))) none)) ≡ some (x ∷ rest)
          → First most text at x rest
      go (Some line) f g = by_end line.value line.next f (ends_at text line.next) (eqb (get_or text line.next 0) 32) g
      go None f g = none-some g

-- a list with a number in it is read from its first on
pub numbers-some : (text : List ℕ) (at : ℕ) → 0 < length (list_of (numbers_at text at))
    → numbers_from (length text) text at ≡ some (list_of (numbers_at text at))
unfolding numbers_at
numbers-some text at h = go (ends_at text at) refl (numbers_from (length text) text at) refl h
  where
    go : (t : Bool) → ends_at text at ≡ t → (o : Option (List ℕ)) → numbers_from (length text) text at ≡ o
        → 0 < length (list_of (cond t (some []) o)) → numbers_from (length text) text at ≡ some (list_of (numbers_at text at))
    go true e o f k = absurd (not-suc-le-zero k)
    go false e none f k = absurd (not-suc-le-zero k)
    go false e (some numbers) f k = rw (e, f)
