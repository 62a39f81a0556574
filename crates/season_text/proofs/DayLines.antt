-- A line of a name and a real day that is written reads back (`day-written`), and a line that is read is what is written for its day (`day-read`).
-- A text too short for a day, and a place past a text's end, have none (`day-short`, `past_end`).
use mathlib.Core.Path.{◌≡◌, refl, sym, ap, ◌∙◌}
use mathlib.Core.Bool.{Bool, true, false, ◌&&◌, and-false}
use mathlib.Core.List.{List, [], ◌∷◌, ◌++◌, append_assoc}
use Prim.Native.Nat.{ℕ, ◌+◌, ◌<◌}
use native.Mathlib.Omega.{arith}
use lib.ListN.{length, drop, length-append, drop_of_length-le}
use lib.Seq.{drop-drop}
use Rattle.lists.proofs.Both.{both_true}
use Rattle.lists.proofs.Cuts.{drop-after}
use Rattle.std.specs.Prelude.{Some, None}
use Rattle.std.proofs.lemmas.Option.{none-some}
use Rattle.text_lines.specs.Lines.{begins, line_of}
use Rattle.text_lines.proofs.Taken.{passed}
use Rattle.text_lines.proofs.Begins.{begins-split, begins-joined}
use Rattle.calendar.specs.declared.Day.{Day}
use Rattle.calendar.specs.Calendar.{real_day}
use Rattle.calendar.proofs.Days.{real}
use Rattle.season_text.specs.DayLines.{day_text, day_line_text, day_in, day_at, day_line}
use Rattle.season_text.proofs.DayTexts.{text-length, written-day}

pub line-length : (name : List ℕ) (d : Day) → length (day_line_text name d) ≡ length name + 11
line-length name d = let e = length-append name (day_text d) in let t = text-length d in omega arith

-- ---- where there is none

short-begins : (d : Day) (text : List ℕ) → length text < 11 → begins (day_text d) text ≡ false
short-begins d text h = go (begins (day_text d) text) refl
  where
    go : (t : Bool) → begins (day_text d) text ≡ t → t ≡ false
    go false e = refl
    go true e =
        let l = ap length (begins-split (day_text d) text e) ∙ length-append (day_text d) (drop (length (day_text d)) text) in
        let t = text-length d in
        absurd (let w : ⊥ = omega arith in w)

pub day-short : (at : ℕ) (text : List ℕ) → length text < 11 → day_at at text ≡ None
unfolding day_at
day-short at text h = simp (short-begins (day_in text) text h, and-false)

pub past_end : (name text : List ℕ) (at : ℕ) → length text < at → day_line name text at ≡ None
unfolding day_line begins
past_end [] text at h =
    ap (day_at (at + 0)) (drop_of_length-le text {i = at + 0} (omega arith)) ∙ day-short (at + 0) [] (omega arith)
past_end (x ∷ name) text at h = simp (drop_of_length-le text {i = at} (omega arith))

-- ---- what is written reads back

pub day-written : (name text rest : List ℕ) (at : ℕ) (d : Day) → real_day d ≡ true → drop at text ≡ day_line_text name d ++ rest
    → day_line name text at ≡ Some (line_of d (at + length (day_line_text name d)))
unfolding day_line day_at
day-written name text rest at d e h =
    let here : drop at text ≡ name ++ (day_text d ++ rest) = h ∙ append_assoc name (day_text d) rest in
    let place = at + length name in
    let starts : begins name (drop at text) ≡ true = ap (begins name) here ∙ begins-joined name (day_text d ++ rest) in
    let behind : drop place text ≡ day_text d ++ rest = drop-after text name (day_text d ++ rest) at here in
    let end : place + length (day_text d) ≡ at + length (day_line_text name d) = let l = length-append name (day_text d) in omega arith in
    simp (starts, behind, written-day d rest (real d e), e, begins-joined (day_text d) rest) (ap (λ (e : ℕ). Some (line_of d e)) end)

-- ---- what is read is what is written

-- a line read at a place of a text: its day is real, the text's next bytes are the line's, and `next` is the place after them
pub record DayLineRead (name text : List ℕ) (at : ℕ) (d : Day) (next : ℕ) : Type 0 where
  pub is_real : real_day d ≡ true
  pub next-is : next ≡ at + length (day_line_text name d)
  pub here : drop at text ≡ day_line_text name d ++ drop next text

pub day-read : (name text : List ℕ) (at : ℕ) (d : Day) (next : ℕ) → day_line name text at ≡ Some (line_of d next) → DayLineRead name text at d next
unfolding day_line day_at
day-read name text at d next e = go (begins name (drop at text)) refl
  where
    place : ℕ
    place = at + length name

    behind : List ℕ
    behind = drop place text

    go : (t : Bool) → begins name (drop at text) ≡ t → DayLineRead name text at d next
    go true starts =
        let found = day_in behind in
        let tested = real_day found && begins (day_text found) behind in
        let p = passed tested found d (place + length (day_text found)) next (rw starts at e) in
        let q : real_day d && begins (day_text d) behind ≡ true = rw p.1 at p.0 in
        let r = both_true (real_day d) (begins (day_text d) behind) q in
        let end : place + length (day_text d) ≡ next = rw p.1 at p.2 in
        let l = length-append name (day_text d) in
        let day-here : behind ≡ day_text d ++ drop next text =
        begins-split (day_text d) behind r.1
        ∙ ap (λ (l : List ℕ). day_text d ++ l) (drop-drop (length (day_text d)) place text ∙ ap (λ (n : ℕ). drop n text) end) in
        record {
          is_real = r.0;
          next-is = omega arith;
          here =
              begins-split name (drop at text) starts
              ∙ ap (λ (l : List ℕ). name ++ l) (drop-drop (length name) at text ∙ day-here)
              ∙ sym (append_assoc name (day_text d) (drop next text));
        }
    go false other = absurd (none-some (line_of d next) (rw other at e))
