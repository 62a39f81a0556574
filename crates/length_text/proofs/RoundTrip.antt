-- Lines of lengths that are written read back, whatever follows them and begins no further one (`lengths-written`), and what is read is what is written
-- for some numbers in form, of which it keeps what a value can (`lengths_read`). No line begins where there is nothing (`nothing-begins`).
use mathlib.Core.Path.{◌≡◌, refl, sym, ap, ◌∙◌}
use mathlib.Core.Bool.{Bool, true, false, cond}
use mathlib.Core.List.{List, [], ◌∷◌, ◌++◌, append_assoc}
use mathlib.Core.Logic.{inl, inr, ⊎_elim}
use Prim.Native.Nat.{ℕ, zero, suc, ◌+◌, ◌^◌, ◌≤◌}
use native.Mathlib.Nat.{not-suc-le-zero}
use native.Mathlib.Omega.{arith}
use lib.ListN.{length, drop, length-append}
use Rattle.lists.specs.Below.{Below}
use Rattle.lists.proofs.Below.{below-cons}
use Rattle.lists.proofs.Cuts.{drop-after}
use Rattle.std.specs.Prelude.{Option, Some, None}
use Rattle.std.proofs.lemmas.Option.{none-some, same_Some}
use Rattle.text_lines.specs.declared.Line.{Line}
use Rattle.text_lines.specs.Lines.{number_text, begins, line_of, number_line}
use Rattle.text_lines.proofs.Taken.{same-line, went_on}
use Rattle.text_lines.proofs.RoundTrip.{line-written, line_read}
use Rattle.lengths.specs.Lengths.{no_lengths}
use Rattle.length_text.specs.declared.LengthLines.{LengthLines}
use Rattle.length_text.specs.LengthLines.{
  length_name,
  length_digits,
  length_text,
  InForm,
  kept,
  in_front,
  numbers_at,
  lines,
  kept_lines,
  ended,
  length_lines,
}

-- ---- nothing begins no line

pub nothing-begins : begins length_name [] ≡ false
unfolding begins
nothing-begins = refl

-- ---- what is written reads back

numbers-written : (ns text rest : List ℕ) (at : ℕ) → Below (10 ^ length_digits) ns → drop at text ≡ length_text ns ++ rest
    → numbers_at (length ns) text at ≡ Some (line_of ns (at + length (length_text ns)))
unfolding numbers_at length_text
numbers-written [] text rest at small here = ap (λ (e : ℕ). Some (line_of [] e)) (let e : at ≡ at + 0 = omega arith in e)
numbers-written (n ∷ ns) text rest at small here =
    let line = number_text length_name n in
    let first : drop at text ≡ line ++ (length_text ns ++ rest) = here ∙ append_assoc line (length_text ns) rest in
    let others : drop (at + length line) text ≡ length_text ns ++ rest = drop-after text line (length_text ns ++ rest) at first in
    let end : at + length line + length (length_text ns) ≡ at + length (line ++ length_text ns) =
    let l = length-append line (length_text ns) in omega arith in
    simp (
      line-written length_digits length_name text (length_text ns ++ rest) at n (omega arith) (small 0 (omega arith)) first,
      numbers-written ns text rest (at + length line) (λ i k. small (suc i) (omega arith)) others,
    ) (ap (λ (e : ℕ). Some (line_of (n ∷ ns) e)) end)

pub lengths-written : (K : ℕ) (ns text rest : List ℕ) (at : ℕ) → InForm K ns → drop at text ≡ length_text ns ++ rest → begins length_name rest ≡ false
    → length_lines K text at ≡ Some (lines (kept ns) (at + length (length_text ns)))
unfolding length_lines length_text kept begins
lengths-written K [] text rest at form here ends =
    let stops : begins length_name (drop at text) ≡ false = ap (begins length_name) here ∙ ends in
    simp stops (ap (λ (e : ℕ). Some (lines no_lengths e)) (let e : at ≡ at + 0 = omega arith in e))
lengths-written K (n ∷ ns) text rest at form here ends =
    let all = length_text (n ∷ ns) in
    let many : length (n ∷ ns) ≡ K =
    ⊎_elim (λ (e : n ∷ ns ≡ []). absurd (not-suc-le-zero (let l = ap length e in let w : 1 ≤ 0 = omega arith in w))) (λ e. e) form.count in
    let starts : begins length_name (drop at text) ≡ true = ap (begins length_name) here in
    let read : numbers_at K text at ≡ Some (line_of (n ∷ ns) (at + length all)) =
    ap (λ (k : ℕ). numbers_at k text at) (sym many) ∙ numbers-written (n ∷ ns) text rest at form.small here in
    let stops : begins length_name (drop (at + length all) text) ≡ false = ap (begins length_name) (drop-after text all rest at here) ∙ ends in
    simp (starts, read, stops)

-- ---- what is read is what is written

-- so many lines read at a place of a text: its next bytes are the lines', and `next` is the place after them
record NumbersRead (count : ℕ) (text : List ℕ) (at : ℕ) (ns : List ℕ) (next : ℕ) : Type 0 where
  many : length ns ≡ count
  small : Below (10 ^ length_digits) ns
  next-is : next ≡ at + length (length_text ns)
  here : drop at text ≡ length_text ns ++ drop next text

none_read : (text : List ℕ) (at : ℕ) → NumbersRead 0 text at [] at
unfolding length_text
none_read text at = record { many = refl; small = λ i h. absurd (not-suc-le-zero h); next-is = omega arith; here = refl }

more-read : (count : ℕ) (text : List ℕ) (at n place : ℕ) (ns : List ℕ) (next : ℕ) → number_line length_digits length_name text at ≡ Some (line_of n place)
    → NumbersRead count text place ns next → NumbersRead (suc count) text at (n ∷ ns) next
unfolding length_text
more-read count text at n place ns next line others =
    let r = line_read length_digits length_name text at n place line in
    let first = number_text length_name n in
    record {
      many = ap suc others.many;
      small = below-cons (10 ^ length_digits) n ns r.below others.small;
      next-is = omega (arith, r.next-is, others.next-is, length-append first (length_text ns));
      here =
          r.here ∙ ap (λ (l : List ℕ). first ++ l) others.here ∙ sym (append_assoc first (length_text ns) (drop next text));
    }

numbers-read : (count : ℕ) (text : List ℕ) (at : ℕ) (ns : List ℕ) (next : ℕ) → numbers_at count text at ≡ Some (line_of ns next)
    → NumbersRead count text at ns next
unfolding numbers_at
numbers-read zero text at ns next e = let s = same-line [] ns at next e in rw (sym s.0, sym s.1) (none_read text at)
numbers-read (suc count) text at ns next e =
    let others = numbers-read count text in
    went_on (number_line length_digits length_name text at) _ (line_of ns next) e
    λ n place line on. by-others n place line (numbers_at count text place) refl on others
  where
    Others : Type 0
    Others = (place : ℕ) (ms : List ℕ) (end : ℕ) → numbers_at count text place ≡ Some (line_of ms end) → NumbersRead count text place ms end

    by-others : (n place : ℕ) → number_line length_digits length_name text at ≡ Some (line_of n place) → (found : Option (Line (List ℕ)))
        → numbers_at count text place ≡ found → in_front n found ≡ Some (line_of ns next) → Others → NumbersRead (suc count) text at ns next
    by-others n place line (Some ms) f g others =
        let s = same-line (n ∷ ms.value) ns ms.next next g in
        rw (s.0, s.1) at (more-read count text at n place ms.value ms.next line (others place ms.value ms.next f))
    by-others n place line None f g others = absurd (none-some (line_of ns next) g)

-- what was found at a place of a text: the lines of some numbers in form, or of none, and no further one behind them
pub record LengthsRead (K : ℕ) (text : List ℕ) (at : ℕ) (found : LengthLines) : Type 0 where
  pub ns : List ℕ
  pub in-form : InForm K ns
  pub is : found ≡ lines (kept ns) (at + length (length_text ns))
  pub here : drop at text ≡ length_text ns ++ drop found.next text
  pub ends : begins length_name (drop found.next text) ≡ false

pub lengths_read : (K : ℕ) (text : List ℕ) (at : ℕ) (found : LengthLines) → length_lines K text at ≡ Some found → LengthsRead K text at found
unfolding length_lines length_text kept
lengths_read K text at found e = by_first (begins length_name (drop at text)) refl e
  where
    -- lines of which the last one ends at `next`
    by_next : (ns : List ℕ) (next : ℕ) → NumbersRead K text at ns next → (t : Bool) → begins length_name (drop next text) ≡ t
        → cond t None (Some (lines (kept ns) next)) ≡ Some found → LengthsRead K text at found
    by_next ns next r true b f = absurd (none-some found f)
    by_next ns next r false b f =
        let these : LengthsRead K text at (lines (kept ns) next) =
        record { ns = ns; in-form = record { count = inr r.many; small = r.small }; is = ap (lines (kept ns)) r.next-is; here = r.here; ends = b } in
        rw (same_Some (lines (kept ns) next) found f) at these

    by-numbers : (read : Option (Line (List ℕ))) → numbers_at K text at ≡ read → ended text (kept_lines read) ≡ Some found → LengthsRead K text at found
    by-numbers (Some ns) g f = by_next ns.value ns.next (numbers-read K text at ns.value ns.next g) (begins length_name (drop ns.next text)) refl f
    by-numbers None g f = absurd (none-some found f)

    by_first : (t : Bool) → begins length_name (drop at text) ≡ t
        → cond t (ended text (kept_lines (numbers_at K text at))) (Some (lines no_lengths at)) ≡ Some found → LengthsRead K text at found
    by_first true b f = by-numbers (numbers_at K text at) refl f
    by_first false b f =
        let no-lines : LengthsRead K text at (lines no_lengths at) =
        record {
          ns = [];
          in-form = record { count = inl refl; small = λ i h. absurd (not-suc-le-zero h) };
          is = ap (lines no_lengths) (let e : at ≡ at + 0 = omega arith in e);
          here = refl;
          ends = b;
        } in
        rw (same_Some (lines no_lengths at) found f) at no-lines
