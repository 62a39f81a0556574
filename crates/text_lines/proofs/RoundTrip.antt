-- A line that is written reads back (`line-written`), and a line that is read is what is written for its value (`line_read`), for any number `most` of
-- digits.
-- Rests on the decimal digits of a number (`Decimal`) and on digits without leading zero (`Numerals`).
use mathlib.Core.Path.{◌≡◌, refl, ap, ◌∙◌}
use mathlib.Core.Bool.{Bool, true, false, ◌&&◌}
use mathlib.Core.List.{List, ◌∷◌, ◌++◌, append_assoc}
use Prim.Native.Nat.{ℕ, ◌+◌, ◌^◌, ◌<◌}
use native.Mathlib.Numerals.{add-one}
use native.Mathlib.Omega.{arith}
use borrow.Author.Tests.{le-leb, eqb-true, ltb-true, ltb-false}
use lib.Dec.{ltb, eqb}
use lib.ListN.{length, take, drop, get_or, get_or-eq_default}
use lib.Seq.{take-append_seam, get_or-append_seam, drop-cons, drop-drop}
use Rattle.lists.proofs.Both.{both_true}
use Rattle.lists.proofs.Cuts.{drop-after}
use Rattle.std.specs.Prelude.{Some}
use Rattle.std.proofs.lemmas.Option.{none-some}
use Rattle.text_lines.specs.Decimal.{decimal, digit_count, value_from}
use Rattle.text_lines.specs.Lines.{number_text, begins, is_numeral, line_of, number_at, number_line}
use Rattle.text_lines.proofs.DigitTexts.{below-digits, count-digits}
use Rattle.text_lines.proofs.Decimal.{length-within, some-digits, decimal-digits, value-decimal}
use Rattle.text_lines.proofs.Numerals.{no-leading-zero, NumeralRead, numeral-read}
use Rattle.text_lines.proofs.Begins.{begins-split, begins-joined}
use Rattle.text_lines.proofs.NumberLines.{number-text-length}
use Rattle.text_lines.proofs.Taken.{passed}

-- ---- what is written reads back

number-written : (most at n : ℕ) (rest : List ℕ) → 0 < most → n < 10 ^ most
    → number_at most at (decimal n ++ (10 ∷ rest)) ≡ Some (line_of n (at + length (decimal n) + 1))
unfolding number_at is_numeral
number-written most at n rest some h =
    let text = decimal n ++ (10 ∷ rest) in
    let count : digit_count text ≡ length (decimal n) = count-digits (decimal-digits n) 10 rest (below-digits 10 (omega arith)) in
    simp (
      count,
      le-leb 1 (length (decimal n)) (some-digits n),
      le-leb (length (decimal n)) most (length-within most n some h),
      no-leading-zero n (10 ∷ rest),
      get_or-append_seam (decimal n) 10 rest 0,
      take-append_seam (decimal n) (10 ∷ rest),
      value-decimal n,
    )

pub line-written : (most : ℕ) (name text rest : List ℕ) (at n : ℕ) → 0 < most → n < 10 ^ most → drop at text ≡ number_text name n ++ rest
    → number_line most name text at ≡ Some (line_of n (at + length (number_text name n)))
unfolding number_line
line-written most name text rest at n some h e =
    let here : drop at text ≡ name ++ (decimal n ++ (10 ∷ rest)) = e ∙ simp append_assoc in
    let starts : begins name (drop at text) ≡ true = ap (begins name) here ∙ begins-joined name (decimal n ++ (10 ∷ rest)) in
    let place = at + length name in
    let end : place + length (decimal n) + 1 ≡ at + length (number_text name n) = let l = number-text-length name n in omega arith in
    simp starts
    (ap (number_at most place) (drop-after text name (decimal n ++ (10 ∷ rest)) at here)
    ∙ number-written most place n rest some h ∙ ap (λ (e : ℕ). Some (line_of n e)) end)

-- ---- what is read is what is written

-- a line read at a place of a text: the text's next bytes are the line's, and `next` is the place after them
pub record LineRead (most : ℕ) (name text : List ℕ) (at n next : ℕ) : Type 0 where
  pub below : n < 10 ^ most
  pub next-is : next ≡ at + length (number_text name n)
  pub here : drop at text ≡ number_text name n ++ drop next text

record NumberRead (most : ℕ) (text : List ℕ) (at n next : ℕ) : Type 0 where
  below : n < 10 ^ most
  next-is : next ≡ at + length (decimal n) + 1
  here : text ≡ decimal n ++ (10 ∷ drop (length (decimal n) + 1) text)

within : (text : List ℕ) (i : ℕ) → get_or text i 0 ≡ 10 → i < length text
within text i e = go (ltb i (length text)) refl
  where
    go : (t : Bool) → ltb i (length text) ≡ t → i < length text
    go true h = ltb-true i (length text) h
    go false h =
        let d = get_or-eq_default text 0 (ltb-false i (length text) h) in absurd (let w : ⊥ = omega arith in w)

number_read : (most : ℕ) (text : List ℕ) (at n next : ℕ) → number_at most at text ≡ Some (line_of n next) → NumberRead most text at n next
unfolding number_at
number_read most text at n next e =
    let count = digit_count text in
    let p = passed (is_numeral most count text && eqb (get_or text count 0) 10) (value_from 0 (take count text)) n (at + count + 1) next e in
    let q = both_true (is_numeral most count text) (eqb (get_or text count 0) 10) p.0 in
    let r : NumeralRead most text n = rw p.1 at (numeral-read most text q.0) in
    let ended : get_or text count 0 ≡ 10 = eqb-true (get_or text count 0) 10 q.1 in
    let many = r.many in
    let rest : drop count text ≡ 10 ∷ drop (length (decimal n) + 1) text = drop-cons text count 0 (within text count ended) ∙ rw (ended, many, add-one) in
    record {
      below = r.below;
      next-is = let f = p.2 in omega arith;
      here = r.here ∙ ap (λ (l : List ℕ). decimal n ++ l) rest;
    }

pub line_read : (most : ℕ) (name text : List ℕ) (at n next : ℕ) → number_line most name text at ≡ Some (line_of n next) → LineRead most name text at n next
unfolding number_line
line_read most name text at n next e = go (begins name (drop at text)) refl
  where
    place : ℕ
    place = at + length name

    go : (t : Bool) → begins name (drop at text) ≡ t → LineRead most name text at n next
    go true starts =
        let r = number_read most (drop place text) place n next (rw starts at e) in
        let l = number-text-length name n in
        let end : place + (length (decimal n) + 1) ≡ next = let f = r.next-is in omega arith in
        record {
          below = r.below;
          next-is = let f = r.next-is in omega arith;
          here =
              begins-split name (drop at text) starts
              ∙ ap (λ (l : List ℕ). name ++ l) (drop-drop (length name) at text ∙ r.here)
              ∙ rw (drop-drop (length (decimal n) + 1) place text, end) (simp append_assoc);
        }
    go false other = absurd (none-some (line_of n next) (rw other at e))
