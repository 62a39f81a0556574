-- What is written as an input reads back (`input-reads-back`): a catalogue, its lengths, a wanted message and a key's numbers of at most five digits each
-- are exactly what the input made of them asks for. Rests on the catalogue's text and its lines reading back.
use mathlib.Core.Path.{◌≡◌, refl, sym, ap, ◌∙◌}
use mathlib.Core.Bool.{true, false}
use mathlib.Core.List.{List, [], ◌∷◌, ◌++◌, flat_map, append_assoc}
use mathlib.Core.Option.{some}
use Prim.Native.Nat.{ℕ, zero, suc, ◌+◌, ◌-◌, ◌≤◌, ◌<◌}
use native.Mathlib.Nat.{not-suc-le-zero}
use native.Mathlib.Omega.{arith}
use borrow.Author.Tests.{le-leb, le-ltb, eq-eqb, ne_eqb}
use lib.ListN.{length, drop, get_or, length-append, length-drop, get_or-append}
use lib.Seq.{get_or-drop, take-append_seam, drop-append_seam}
use Rattle.lists.specs.Ascii.{ascii}
use Rattle.lists.specs.Below.{Below}
use Rattle.lists.proofs.Each.{All-get}
use Rattle.lists.proofs.Cuts.{drop-after}
use Rattle.std.specs.Prelude.{Some}
use Rattle.text_lines.specs.Decimal.{decimal, is_digit, digit_count}
use Rattle.text_lines.specs.Lines.{number_text, begins, is_numeral, line_of}
use Rattle.text_lines.proofs.Begins.{begins-joined}
use Rattle.text_lines.proofs.DigitTexts.{below-digits, digit-range, count-digits}
use Rattle.text_lines.proofs.Decimal.{length_most, some-digits, decimal-digits, value-decimal}
use Rattle.text_lines.proofs.Numerals.{no-leading-zero}
use Rattle.text_lines.proofs.RoundTrip.{line-written}
use Rattle.catalogue.specs.declared.Catalogue.{Catalogue}
use Rattle.season_text.specs.SeasonLines.{date_begins}
use Rattle.catalogue_text.specs.Text.{text_with, Ends, Writable}
use Rattle.catalogue_text.proofs.Ends.{other-ends}
use Rattle.catalogue_text.proofs.CatalogueLines.{lines-written}
use Rattle.number_lists.specs.NumberLists.{after_spaces, spaced, numeral_from, numeral_at, ends_at, numbers_from, numbers_at}
use Rattle.printing.specs.Input.{Asked, wanted_name, key_name, most_input, key_line, lines_ask, input_asks, input_of}
use Rattle.number_lists.proofs.Reading.{at_last, at_more}

-- ---- bytes of a text

module _ (text rest : List ℕ) (at y : ℕ) (e : drop at text ≡ y ∷ rest) where
  byte_at : get_or text at 0 ≡ y
  byte_at =
      ap (λ (n : ℕ). get_or text n 0) (let z : at ≡ at + 0 = omega arith in z) ∙ sym (get_or-drop at text 0 0) ∙ ap (λ (l : List ℕ). get_or l 0 0) e

  ends-not : (y ≡ 10 → ⊥) → ends_at text at ≡ false
  ends-not other = simp (byte_at, ne_eqb y 10 other)

ends_there : (text : List ℕ) (at : ℕ) → drop at text ≡ 10 ∷ [] → ends_at text at ≡ true
ends_there text at e =
    let l : length text - at ≡ 1 = sym (length-drop at text) ∙ ap length e in simp (byte_at text [] at 10 e, eq-eqb (length text) (at + 1) (omega arith))

-- ---- numbers

numeral-written : (text rest : List ℕ) (at n y : ℕ) → n < 100000 → is_digit y ≡ false → drop at text ≡ decimal n ++ (y ∷ rest)
    → numeral_at text at ≡ Some (line_of n (at + length (decimal n)))
unfolding numeral_from is_numeral
numeral-written text rest at n y h other e =
    let count : digit_count (decimal n ++ (y ∷ rest)) ≡ length (decimal n) = count-digits (decimal-digits n) y rest other in
    simp (
      e,
      count,
      le-leb 1 (length (decimal n)) (some-digits n),
      le-leb (length (decimal n)) 5 (length_most 4 n h),
      no-leading-zero n (y ∷ rest),
      take-append_seam (decimal n) (y ∷ rest),
      value-decimal n,
    )

numbers-written : (text : List ℕ) (most n : ℕ) (numbers : List ℕ) (at : ℕ) → n < 100000 → Below 100000 numbers → length numbers < most
    → drop at text ≡ decimal n ++ (after_spaces numbers ++ (10 ∷ [])) → numbers_from most text at ≡ some (n ∷ numbers)
unfolding after_spaces flat_map
numbers-written text zero n numbers at h b few e = absurd (not-suc-le-zero few)
numbers-written text (suc most) n [] at h b few e =
    at_last most text at n (at + length (decimal n))
    (numeral-written text [] at n 10 h (below-digits 10 (omega arith)) e)
    (ends_there text (at + length (decimal n)) (drop-after text (decimal n) (10 ∷ []) at e))
numbers-written text (suc most) n (x ∷ numbers) at h b few e =
    let end = at + length (decimal n) in
    let rest = decimal x ++ (after_spaces numbers ++ (10 ∷ [])) in
    let here : drop at text ≡ decimal n ++ (32 ∷ rest) =
    e ∙ ap (λ (l : List ℕ). decimal n ++ (32 ∷ l)) (append_assoc (decimal x) (after_spaces numbers) (10 ∷ [])) in
    let space : drop end text ≡ 32 ∷ rest = drop-after text (decimal n) (32 ∷ rest) at here in
    let byte = byte_at text rest end 32 space in
    let others : numbers_from most text (end + 1) ≡ some (x ∷ numbers) =
    numbers-written text most x numbers (end + 1) (b 0 (omega arith)) (λ i k. b (suc i) (omega arith)) (omega arith)
    (drop-after text (32 ∷ []) rest end space) in
    at_more most text at n end
    (numeral-written text rest at n 32 h (below-digits 32 (omega arith)) here)
    (ends-not text rest end 32 space (λ z. let w : ⊥ = omega arith in w))
    (eq-eqb (get_or text end 0) 32 byte)
    ∙ rw others

after-long : (numbers : List ℕ) → length numbers ≤ length (after_spaces numbers)
unfolding after_spaces flat_map
after-long [] = omega arith
after-long (n ∷ numbers) =
    let l = length-append (decimal n) (after_spaces numbers) in let h = after-long numbers in omega arith

list_written : (text numbers : List ℕ) (at : ℕ) → Below 100000 numbers → drop at text ≡ spaced numbers ++ (10 ∷ [])
    → numbers_at text at ≡ some numbers
unfolding numbers_at spaced
list_written text [] at b e = simp (ends_there text at e)
list_written text (n ∷ numbers) at b e =
    let rest = after_spaces numbers ++ (10 ∷ []) in
    let here : drop at text ≡ decimal n ++ rest = e ∙ append_assoc (decimal n) (after_spaces numbers) (10 ∷ []) in
    let first : get_or text at 0 ≡ get_or (decimal n) 0 0 =
    ap (λ (m : ℕ). get_or text m 0) (let z : at ≡ at + 0 = omega arith in z) ∙ sym (get_or-drop at text 0 0)
    ∙ ap (λ (l : List ℕ). get_or l 0 0) here ∙ get_or-append (decimal n) rest 0 0 (some-digits n) in
    let range = digit-range (get_or (decimal n) 0 0) (All-get 0 (decimal-digits n) 0 (some-digits n)) in
    let other : get_or text at 0 ≡ 10 → ⊥ = λ z. let w : ⊥ = omega arith in w in
    let l = sym (length-drop at text) ∙ ap length here ∙ length-append (decimal n) rest in
    let m = length-append (after_spaces numbers) (10 ∷ []) in
    let long = after-long numbers in
    let some-digit = some-digits n in
    simp (ne_eqb (get_or text at 0) 10 other)
    (numbers-written text (length text) n numbers at (b 0 (omega arith)) (λ i k. b (suc i) (omega arith)) (omega arith) here)

-- ---- the whole input

-- the line of the wanted message goes on with no catalogue
wanted-ends : (c : Catalogue) (ns : List ℕ) (wanted : ℕ) (rest : List ℕ) → Ends c ns (number_text wanted_name wanted ++ rest)
unfolding begins date_begins
wanted-ends c ns wanted rest = other-ends c ns (number_text wanted_name wanted ++ rest) refl refl refl

pub input-reads-back : (a : Asked) (ns : List ℕ) → Writable a.catalogue ns → a.wanted < 100000 → Below 100000 a.key
    → length (input_of a ns) ≤ most_input → input_asks (input_of a ns) ≡ some a
unfolding input_asks lines_ask key_line input_of
input-reads-back a ns small wanted-small key-small fits =
    let text = input_of a ns in
    let c = text_with a.catalogue ns in
    let w = number_text wanted_name a.wanted in
    let k = spaced a.key ++ ascii "\n" in
    let lines = lines-written a.catalogue ns (w ++ (key_name ++ k)) small (wanted-ends a.catalogue ns a.wanted (key_name ++ k)) in
    let at-wanted : drop (length c) text ≡ w ++ (key_name ++ k) = drop-append_seam c (w ++ (key_name ++ k)) in
    let at_key : drop (length c + length w) text ≡ key_name ++ k = drop-after text w (key_name ++ k) (length c) at-wanted in
    let at-numbers : drop (length c + length w + length key_name) text ≡ k = drop-after text key_name k (length c + length w) at_key in
    let starts : begins key_name (drop (length c + length w) text) ≡ true = ap (begins key_name) at_key ∙ begins-joined key_name k in
    simp (
      le-ltb most_input (length text) fits,
      lines,
      line-written 5 wanted_name text (key_name ++ k) (length c) a.wanted (omega arith) wanted-small at-wanted,
      starts,
      list_written text a.key (length c + length w + length key_name) key-small at-numbers,
    )
