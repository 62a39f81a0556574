-- An input that is read is in form (`input-in-form`): it is what is written for what it asks for. So refusal 1 is given exactly to an input
-- that nothing is written as, or that is too long (`refused-input`).
use mathlib.Core.Path.{◌≡◌, refl, sym, ap, ◌∙◌}
use mathlib.Core.Bool.{Bool, true, false, cond}
use mathlib.Core.List.{List, [], ◌∷◌, ◌++◌, flat_map, append_assoc}
use mathlib.Core.Logic.{◌↔◌, ⊎_elim}
use mathlib.Core.Option.{Option, none, some}
use Prim.Native.Nat.{ℕ, zero, suc, ◌+◌, ◌≤◌, ◌<◌}
use native.Mathlib.Numerals.{add-one}
use native.Mathlib.Omega.{arith}
use borrow.Author.Tests.{eqb-true, ltb-true, ltb-false}
use lib.Dec.{ltb, eqb}
use lib.ListN.{length, take, drop, get_or, drop_of_length-le, get_or-eq_default}
use lib.Seq.{drop-cons, drop-drop}
use Rattle.lists.specs.Below.{Below}
use Rattle.lists.proofs.Below.{below-cons}
use Rattle.lists.proofs.Both.{both_true}
use Rattle.text_lines.specs.declared.Line.{Line}
use Rattle.std.specs.Prelude.{Some, None, Option as Found}
use Rattle.std.proofs.lemmas.Option.{none-some as not-found}
use Rattle.text_lines.specs.Decimal.{decimal, digit_count, value_from}
use Rattle.text_lines.specs.Lines.{number_text, begins, is_numeral, line_of, number_line}
use Rattle.text_lines.proofs.Begins.{begins-split}
use Rattle.text_lines.proofs.Numerals.{NumeralRead, numeral-read}
use Rattle.text_lines.proofs.RoundTrip.{LineRead, line_read}
use Rattle.text_lines.proofs.Taken.{same-line}
use Rattle.catalogue_text.specs.Text.{text_with, Writable}
use Rattle.catalogue_text.specs.Parsing.{catalogue_lines}
use Rattle.catalogue_text.proofs.CatalogueLines.{LinesRead, lines-cases}
use Rattle.number_lists.specs.NumberLists.{after_spaces, spaced, on_number, numeral_from, numeral_at, ends_at, before, numbers_from, numbers_at}
use Rattle.printing.specs.Input.{Asked, asked, wanted_name, key_name, most_input, key_line, on_key, lines_ask, input_asks, input_of}
use Rattle.printing.proofs.RoundTrip.{input-reads-back}

-- The text is what is written for this and these lengths, in at most five digits for each other number and with real dates or none, and not too long
pub record InForm (text : List ℕ) (a : Asked) (ns : List ℕ) : Type 0 where
  pub short : length text ≤ most_input
  pub catalogue-writable : Writable a.catalogue ns
  pub wanted-digits : a.wanted < 100000
  pub key-digits : Below 100000 a.key
  pub text-is : text ≡ input_of a ns

none-some : {A B : Type 0} {x : A} → none ≡ some x → B
none-some {A} {B} {x} e = let z : ◌≡◌ {A = ℕ} 0 1 = cc in absurd (let w : ⊥ = omega arith in w)

-- ---- numbers

-- a byte that is not 0 stands in the text
inside : (text : List ℕ) (i byte : ℕ) → 0 < byte → get_or text i 0 ≡ byte → i < length text
inside text i byte some_byte e = go (ltb i (length text)) refl
  where
    go : (t : Bool) → ltb i (length text) ≡ t → i < length text
    go true h = ltb-true i (length text) h
    go false h = let d = get_or-eq_default text 0 (ltb-false i (length text) h) in absurd (let w : ⊥ = omega arith in w)

byte-first : (text : List ℕ) (i byte : ℕ) → 0 < byte → eqb (get_or text i 0) byte ≡ true → drop i text ≡ byte ∷ drop (i + 1) text
byte-first text i byte some_byte e =
    let here = eqb-true (get_or text i 0) byte e in
    drop-cons text i 0 (inside text i byte some_byte here) ∙ rw (here, add-one)

ends_is : (text : List ℕ) (at : ℕ) → ends_at text at ≡ true → drop at text ≡ 10 ∷ []
ends_is text at e =
    let p = both_true (eqb (get_or text at 0) 10) (eqb (length text) (at + 1)) e in
    let last = eqb-true (length text) (at + 1) p.1 in
    byte-first text at 10 (omega arith) p.0 ∙ ap (λ (l : List ℕ). 10 ∷ l) (drop_of_length-le text {i = at + 1} (omega arith))

record NumeralAt (text : List ℕ) (at n end : ℕ) : Type 0 where
  below : n < 100000
  here : drop at text ≡ decimal n ++ drop end text

numeral-at : (text : List ℕ) (at n end : ℕ) → numeral_at text at ≡ Some (line_of n end) → NumeralAt text at n end
unfolding numeral_from
numeral-at text at n end e = go (is_numeral 5 (digit_count rest) rest) refl e
  where
    rest : List ℕ
    rest = drop at text

    go : (t : Bool) → is_numeral 5 (digit_count rest) rest ≡ t
        → cond t (Some (line_of (value_from 0 (take (digit_count rest) rest)) (at + digit_count rest))) None ≡ Some (line_of n end) → NumeralAt text at n end
    go true f g =
        let s = same-line (value_from 0 (take (digit_count rest) rest)) n (at + digit_count rest) end g in
        let r : NumeralRead 5 rest n = rw s.0 at (numeral-read 5 rest f) in
        record {
          below = r.below;
          here = r.here ∙ ap (λ (l : List ℕ). decimal n ++ l) (drop-drop (digit_count rest) at text ∙ ap (λ (m : ℕ). drop m text) s.1);
        }
    go false f g = absurd (not-found (line_of n end) g)

-- one or more numbers that were read to the end of the text
record SomeRead (text : List ℕ) (at : ℕ) (numbers : List ℕ) : Type 0 where
  first : ℕ
  rest : List ℕ
  numbers-are : numbers ≡ first ∷ rest
  below : Below 100000 numbers
  here : drop at text ≡ decimal first ++ (after_spaces rest ++ (10 ∷ []))

module _ (text : List ℕ) (at : ℕ) (numbers : List ℕ) where
  last-read : (n end : ℕ) → NumeralAt text at n end → ends_at text end ≡ true → some (n ∷ []) ≡ some numbers → SomeRead text at numbers
  unfolding after_spaces flat_map
  last-read n end r ended e =
      let same : n ∷ [] ≡ numbers = cc in
      record {
        first = n;
        rest = [];
        numbers-are = sym same;
        below = rw (← same) (below-cons 100000 n [] r.below (λ i h. absurd (let w : ⊥ = omega arith in w)));
        here = r.here ∙ ap (λ (l : List ℕ). decimal n ++ l) (ends_is text end ended);
      }

  more-read : (n end : ℕ) → NumeralAt text at n end → eqb (get_or text end 0) 32 ≡ true → (o : Option (List ℕ))
      → ((others : List ℕ) → o ≡ some others → SomeRead text (end + 1) others) → before n o ≡ some numbers → SomeRead text at numbers
  unfolding after_spaces flat_map
  more-read n end r space none later e = none-some e
  more-read n end r space (some others) later e =
      let same : n ∷ others ≡ numbers = cc in
      let s = later others refl in
      let line : drop end text ≡ 32 ∷ (decimal s.first ++ (after_spaces s.rest ++ (10 ∷ []))) =
      byte-first text end 32 (omega arith) space ∙ ap (λ (l : List ℕ). 32 ∷ l) s.here in
      record {
        first = n;
        rest = others;
        numbers-are = sym same;
        below = rw (← same) (below-cons 100000 n others r.below s.below);
        here =
            r.here
            ∙ ap (λ (l : List ℕ). decimal n ++ l)
            (line ∙ ap (λ (l : List ℕ). 32 ∷ l) (sym (append_assoc (decimal s.first) (after_spaces s.rest) (10 ∷ [])))
            ∙ ap (λ (l : List ℕ). after_spaces l ++ (10 ∷ [])) (sym s.numbers-are));
      }

some_read : (most : ℕ) (text : List ℕ) (at : ℕ) (numbers : List ℕ) → numbers_from most text at ≡ some numbers → SomeRead text at numbers
unfolding numbers_from
some_read zero text at numbers e = none-some e
some_read (suc most) text at numbers e = go (numeral_at text at) refl (λ place others. some_read most text place others) e
  where
    by_end : (n end : ℕ) → NumeralAt text at n end → ((place : ℕ) (others : List ℕ) → numbers_from most text place ≡ some others → SomeRead text place others)
        → (t u : Bool) → ends_at text end ≡ t → eqb (get_or text end 0) 32 ≡ u
        → cond t (some (n ∷ [])) (cond u (before n (numbers_from most text (end + 1))) none) ≡ some numbers → SomeRead text at numbers
    by_end n end r later true u f g e = last-read text at numbers n end r f e
    by_end n end r later false true f g e = more-read text at numbers n end r g (numbers_from most text (end + 1)) (later (end + 1)) e
    by_end n end r later false false f g e = none-some e

    go : (line : Found (Line ℕ)) → numeral_at text at ≡ line
        → ((place : ℕ) (others : List ℕ) → numbers_from most text place ≡ some others → SomeRead text place others)
        → on_number line (λ n end. cond (ends_at text end) (some (n ∷ []))
        (cond (eqb (get_or text end 0) 32) (before n (numbers_from most text (end + 1))) none)) ≡ some numbers
        → SomeRead text at numbers
    go (Some line) f later e =
        let end = line.next in
        by_end line.value end (numeral-at text at line.value end f) later (ends_at text end) (eqb (get_or text end 0) 32) refl refl e
    go None f later e = none-some e

-- numbers, or none of them
record ListRead (text : List ℕ) (at : ℕ) (numbers : List ℕ) : Type 0 where
  below : Below 100000 numbers
  here : drop at text ≡ spaced numbers ++ (10 ∷ [])

list_read : (text : List ℕ) (at : ℕ) (numbers : List ℕ) → numbers_at text at ≡ some numbers → ListRead text at numbers
unfolding numbers_at spaced
list_read text at numbers e = go (ends_at text at) refl e
  where
    go : (t : Bool) → ends_at text at ≡ t → cond t (some []) (numbers_from (length text) text at) ≡ some numbers → ListRead text at numbers
    go true f g =
        let same : [] ≡ numbers = cc in
        rw (← same) (record { below = λ i h. absurd (let w : ⊥ = omega arith in w); here = ends_is text at f })
    go false f g =
        let s = some_read (length text) text at numbers g in
        record {
          below = s.below;
          here = s.here
              ∙ sym (append_assoc (decimal s.first) (after_spaces s.rest) (10 ∷ []))
              ∙ ap (λ (l : List ℕ). spaced l ++ (10 ∷ [])) (sym s.numbers-are);
        }

-- ---- the whole input

module _ (text : List ℕ) (a : Asked) (short : length text ≤ most_input) (ns : List ℕ) (r : LinesRead text (catalogue_lines text) ns) where
  key-read : (wanted next : ℕ) → LineRead 5 wanted_name text (catalogue_lines text).next wanted next → (o : Option (List ℕ)) → key_line text next ≡ o
      → on_key o (asked (catalogue_lines text).catalogue wanted) ≡ some a → InForm text a ns
  unfolding key_line input_of
  key-read wanted next w none f e = none-some e
  key-read wanted next w (some key) f e = go (begins key_name (drop next text)) refl f
    where
      same : asked (catalogue_lines text).catalogue wanted key ≡ a
      same = cc

      go : (t : Bool) → begins key_name (drop next text) ≡ t → cond t (numbers_at text (next + length key_name)) none ≡ some key → InForm text a ns
      go true named g =
          let k = list_read text (next + length key_name) key g in
          let rest : drop next text ≡ key_name ++ (spaced key ++ (10 ∷ [])) =
          begins-split key_name (drop next text) named ∙ ap (λ (l : List ℕ). key_name ++ l) (drop-drop (length key_name) next text ∙ k.here) in
          rw (← same) (record {
            short = short;
            catalogue-writable = r.writable;
            wanted-digits = w.below;
            key-digits = k.below;
            text-is = r.here
                ∙ ap (λ (l : List ℕ). text_with (catalogue_lines text).catalogue ns ++ l)
                (w.here ∙ ap (λ (l : List ℕ). number_text wanted_name wanted ++ l) rest);
          })
      go false named g = none-some g

  wanted_read : (line : Found (Line ℕ)) → number_line 5 wanted_name text (catalogue_lines text).next ≡ line
      → on_number line (λ wanted next. on_key (key_line text next) (asked (catalogue_lines text).catalogue wanted)) ≡ some a → InForm text a ns
  wanted_read (Some line) f e =
      let wanted = line.value in
      let next = line.next in
      key-read wanted next (line_read 5 wanted_name text (catalogue_lines text).next wanted next f) (key_line text next) refl e
  wanted_read None f e = none-some e

pub input-in-form : (text : List ℕ) (a : Asked) → input_asks text ≡ some a → (ns : List ℕ) × InForm text a ns
unfolding input_asks lines_ask
input-in-form text a e = go (ltb most_input (length text)) refl e
  where
    lines : length text ≤ most_input → lines_ask text ≡ some a → (ns : List ℕ) × InForm text a ns
    lines short f =
        ⊎_elim (λ refused. none-some (rw refused at f))
        (λ r. (r.0, wanted_read text a short r.0 r.1 (number_line 5 wanted_name text (catalogue_lines text).next) refl (rw r.1.accepted at f)))
        (lines-cases text)

    go : (t : Bool) → ltb most_input (length text) ≡ t → cond t none (lines_ask text) ≡ some a → (ns : List ℕ) × InForm text a ns
    go true long f = none-some f
    go false fits f = lines (ltb-false most_input (length text) fits) f

-- refused 1 exactly if the text is no input's
pub refused-input : (text : List ℕ) → (input_asks text ≡ none) ↔ ((a : Asked) (ns : List ℕ) → InForm text a ns → ⊥)
refused-input text = (λ e a ns f. none-some (sym e ∙ read a ns f), λ never. go (input_asks text) refl never)
  where
    read : (a : Asked) (ns : List ℕ) → InForm text a ns → input_asks text ≡ some a
    read a ns f =
        ap input_asks f.text-is
        ∙ input-reads-back a ns f.catalogue-writable f.wanted-digits f.key-digits (rw f.text-is at f.short)

    go : (o : Option Asked) → input_asks text ≡ o → ((a : Asked) (ns : List ℕ) → InForm text a ns → ⊥) → input_asks text ≡ none
    go none e never = e
    go (some a) e never = let f = input-in-form text a e in absurd (never a f.0 f.1)
