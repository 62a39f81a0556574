-- The lines of a season that are written read back, whatever follows them and does not go on with them (`season-written`), and what is read is what
-- is written for its dates, which end there (`season-read`). How long they are, and which texts begin none.
use mathlib.Core.Path.{◌≡◌, refl, sym, ap, ◌∙◌}
use mathlib.Core.Bool.{Bool, true, false}
use mathlib.Core.List.{List, [], ◌∷◌, ◌++◌, append_assoc}
use Prim.Native.Nat.{ℕ, ◌+◌, ◌≤◌}
use native.Mathlib.Omega.{arith}
use borrow.Author.Tests.{ne_eqb}
use lib.ListN.{length, drop, length-append}
use Rattle.lists.proofs.Both.{both_true}
use Rattle.lists.proofs.Cuts.{drop-after}
use Rattle.std.specs.Prelude.{Some}
use Rattle.std.proofs.lemmas.Option.{same_Some}
use Rattle.text_lines.specs.Lines.{begins}
use Rattle.text_lines.proofs.Taken.{went_on}
use Rattle.calendar.specs.declared.Day.{Day}
use Rattle.calendar.specs.Calendar.{real_day, no_day, is_none, undated}
use Rattle.calendar.proofs.Days.{none_is, real-given}
use Rattle.season_text.specs.declared.Season.{Season}
use Rattle.season_text.specs.DayLines.{day_line_text, day_line}
use Rattle.season_text.specs.SeasonLines.{open_name, close_name, in_form, season_text, date_begins, season_of, season_lines, dates_go_on}
use Rattle.season_text.proofs.DayLines.{line-length, day-written, DayLineRead, day-read}

-- ---- the two lines, or none

pub text-none : (opening closing : Day) → undated opening closing ≡ true → season_text opening closing ≡ []
unfolding season_text
text-none opening closing e = rw e

pub text-lines : (opening closing : Day) → undated opening closing ≡ false
    → season_text opening closing ≡ day_line_text open_name opening ++ day_line_text close_name closing
unfolding season_text
text-lines opening closing e = rw e

pub parts-length : (opening closing : Day) → undated opening closing ≡ false
    → length (season_text opening closing) ≡ length (day_line_text open_name opening) + length (day_line_text close_name closing)
parts-length opening closing e =
    ap length (text-lines opening closing e) ∙ length-append (day_line_text open_name opening) (day_line_text close_name closing)

pub lines-length : (opening closing : Day) → undated opening closing ≡ false → length (season_text opening closing) ≡ 33
lines-length opening closing e =
    let l = parts-length opening closing e in
    let a = line-length open_name opening in
    let b = line-length close_name closing in
    omega arith

pub season-length : (opening closing : Day) → length (season_text opening closing) ≤ 33
season-length opening closing = go (undated opening closing) refl
  where
    go : (t : Bool) → undated opening closing ≡ t → length (season_text opening closing) ≤ 33
    go true e = let l = ap length (text-none opening closing e) in omega arith
    go false e = let l = lines-length opening closing e in omega arith

-- ---- what begins no line

pub nothing-begins : date_begins [] ≡ false
unfolding date_begins begins
nothing-begins = refl

-- a byte that is neither name's first
pub other-begins : (x : ℕ) (rest : List ℕ) → (x ≡ 111 → ⊥) → (x ≡ 99 → ⊥) → date_begins (x ∷ rest) ≡ false
unfolding date_begins begins
other-begins x rest h k = simp (ne_eqb 111 x (λ e. h (sym e)), ne_eqb 99 x (λ e. k (sym e)))

-- ---- what is written reads back

-- the days of two lines in form are real
both-real : (opening closing : Day) → in_form opening closing ≡ true → undated opening closing ≡ false → (real_day opening ≡ true) × (real_day closing ≡ true)
unfolding in_form
both-real opening closing e given = both_true (real_day opening) (real_day closing) (rw given at e)

-- two empty places
both-none : (opening closing : Day) → undated opening closing ≡ true → (opening ≡ no_day) × (closing ≡ no_day)
unfolding undated
both-none opening closing e =
    let p = both_true (is_none opening) (is_none closing) e in (none_is opening p.0, none_is closing p.1)

pub season-written : (opening closing : Day) (text rest : List ℕ) (at : ℕ) → in_form opening closing ≡ true
    → drop at text ≡ season_text opening closing ++ rest → dates_go_on opening closing rest ≡ false
    → season_lines text at ≡ Some (season_of opening closing (at + length (season_text opening closing)))
unfolding season_lines date_begins begins
season-written opening closing text rest at form here ends = go (undated opening closing) refl
  where
    a : List ℕ
    a = day_line_text open_name opening

    b : List ℕ
    b = day_line_text close_name closing

    go : (t : Bool) → undated opening closing ≡ t → season_lines text at ≡ Some (season_of opening closing (at + length (season_text opening closing)))
    go true none =
        let none_here : drop at text ≡ rest = here ∙ ap (λ (l : List ℕ). l ++ rest) (text-none opening closing none) in
        let p = both-none opening closing none in
        let stops : date_begins (drop at text) ≡ false = ap date_begins none_here ∙ rw none at ends in
        let end : at ≡ at + length (season_text opening closing) = let l = ap length (text-none opening closing none) in omega arith in
        rw (stops, p.0, p.1) (ap (λ (e : ℕ). Some (season_of no_day no_day e)) (rw (p.0, p.1) at end))
    go false given =
        let r = both-real opening closing form given in
        let open-here : drop at text ≡ a ++ (b ++ rest) =
        here ∙ ap (λ (l : List ℕ). l ++ rest) (text-lines opening closing given) ∙ append_assoc a b rest in
        let close-here : drop (at + length a) text ≡ b ++ rest = drop-after text a (b ++ rest) at open-here in
        let starts : date_begins (drop at text) ≡ true = ap date_begins open-here in
        let end : at + length a + length b ≡ at + length (season_text opening closing) =
        let l = parts-length opening closing given in omega arith in
        simp (
          starts,
          day-written open_name text (b ++ rest) at opening r.0 open-here,
          day-written close_name text rest (at + length a) closing r.1 close-here,
        ) (ap (λ (e : ℕ). Some (season_of opening closing e)) end)

-- ---- what is read is what is written

-- the lines read at a place of a text, or none: the text's next bytes are the lines', and `next` is the place after them
pub record SeasonRead (text : List ℕ) (at : ℕ) (opening closing : Day) (next : ℕ) : Type 0 where
  pub in-form : in_form opening closing ≡ true
  pub next-is : next ≡ at + length (season_text opening closing)
  pub here : drop at text ≡ season_text opening closing ++ drop next text
  pub ends : dates_go_on opening closing (drop next text) ≡ false

none_read : (text : List ℕ) (at : ℕ) → date_begins (drop at text) ≡ false → SeasonRead text at no_day no_day at
unfolding in_form season_text undated is_none
none_read text at e = record { in-form = refl; next-is = omega arith; here = refl; ends = e }

-- a real day is given
given : (opening closing : Day) → real_day opening ≡ true → undated opening closing ≡ false
unfolding undated
given opening closing e = simp (real-given opening e)

both_read : (text : List ℕ) (at a next : ℕ) (opening closing : Day) → DayLineRead open_name text at opening a → DayLineRead close_name text a closing next
    → SeasonRead text at opening closing next
unfolding in_form
both_read text at a next opening closing first last =
    let dates = given opening closing first.is_real in
    let p = day_line_text open_name opening in
    let q = day_line_text close_name closing in
    let l = parts-length opening closing dates in
    let i = first.next-is in
    let j = last.next-is in
    record {
      in-form = rw (dates, first.is_real, last.is_real);
      next-is = omega arith;
      here =
          first.here ∙ ap (λ (l : List ℕ). p ++ l) last.here
          ∙ sym (append_assoc p q (drop next text)) ∙ ap (λ (l : List ℕ). l ++ drop next text) (sym (text-lines opening closing dates));
      ends = rw dates;
    }

-- one season, its dates and its end
same-season : (s t : Season) → Some s ≡ Some t → (s.opening ≡ t.opening) × (s.closing ≡ t.closing) × (s.next ≡ t.next)
same-season s t e =
    let p = same_Some s t e in
    (ap (λ (x : Season). x.opening) p, ap (λ (x : Season). x.closing) p, ap (λ (x : Season). x.next) p)

pub season-read : (text : List ℕ) (at : ℕ) (opening closing : Day) (next : ℕ) → season_lines text at ≡ Some (season_of opening closing next)
    → SeasonRead text at opening closing next
unfolding season_lines
season-read text at opening closing next e = go (date_begins (drop at text)) refl
  where
    go : (t : Bool) → date_begins (drop at text) ≡ t → SeasonRead text at opening closing next
    go true begun =
        went_on (day_line open_name text at) _ (season_of opening closing next) (rw begun at e) λ d a first on.
        went_on (day_line close_name text a) _ (season_of opening closing next) on λ f b last done.
        let s = same-season (season_of d f b) (season_of opening closing next) done in
        rw (s.0, s.1, s.2) at (both_read text at a b d f (day-read open_name text at d a first) (day-read close_name text a f b last))
    go false other =
        let s = same-season (season_of opening closing next) (season_of no_day no_day at) (sym (rw other at e)) in
        rw (s.0, s.1, s.2) (none_read text at other)
