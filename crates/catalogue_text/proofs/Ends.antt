-- Where a catalogue's text ends: exactly where none of its parts goes on (`ends-head`, `head-ends` for the lengths; `parts-end`, `both_end` for the
-- dates and the sum in front of them). What begins with none of its lines does not go on with it (`other-ends`).
use mathlib.Core.Path.{◌≡◌, refl, ap, ◌∙◌}
use mathlib.Core.Bool.{Bool, true, false, ◌&&◌, ◌||◌, and-false, true≢false}
use mathlib.Core.List.{List, [], ◌∷◌, ◌++◌}
use Prim.Native.Nat.{ℕ}
use native.Mathlib.Omega.{arith}
use Rattle.text_lines.specs.Lines.{begins}
use Rattle.symbol.specs.declared.Operation.{Operation}
use Rattle.symbol.specs.declared.Operation.TheVariants.{ExclusiveOr, Addition}
use Rattle.calendar.specs.declared.Day.{Day}
use Rattle.calendar.specs.Calendar.{undated}
use Rattle.season_text.specs.SeasonLines.{date_begins, dates_go_on}
use Rattle.season_text.proofs.SeasonLines.{nothing-begins, other-begins}
use Rattle.length_text.specs.LengthLines.{length_name, length_text}
use Rattle.catalogue.specs.declared.Catalogue.{Catalogue}
use Rattle.catalogue_text.specs.Text.{sum_name, sum_text, unsummed, unmeasured, head_goes_on, goes_on, Ends}
use Rattle.catalogue_text.proofs.SumLine.{sum_goes_on}

-- ---- the dates and the sum

-- the dates end before the line of the sum, which begins no date; and where there is none, before the rest
pub dates-end : (opening closing : Day) (sum : Operation) (rest : List ℕ) → unsummed sum && dates_go_on opening closing rest ≡ false
    → dates_go_on opening closing (sum_text sum ++ rest) ≡ false
dates-end opening closing ExclusiveOr rest e = e
dates-end opening closing Addition rest e =
    ap (λ (t : Bool). undated opening closing && t) (other-begins 115 _ (λ z. omega arith) (λ z. omega arith)) ∙ and-false (undated opening closing)

-- where they end, neither the line of the sum nor the dates go on
pub parts-end : (s t u : Bool) → s && (t || u) ≡ false → (s && t ≡ false) × (s && u ≡ false)
parts-end true true u e = (e, absurd (true≢false e))
parts-end true false u e = (refl, e)
parts-end false t u e = (refl, refl)

-- and where neither goes on, they end
pub both_end : (c : Catalogue) (rest : List ℕ) → sum_goes_on c.sum rest ≡ false → dates_go_on c.opening c.closing (sum_text c.sum ++ rest) ≡ false
    → head_goes_on c rest ≡ false
both_end c rest sum dates = go c.sum sum dates
  where
    go : (o : Operation) → sum_goes_on o rest ≡ false → dates_go_on c.opening c.closing (sum_text o ++ rest) ≡ false
        → unsummed o && (begins sum_name rest || dates_go_on c.opening c.closing rest) ≡ false
    go ExclusiveOr sum dates = rw (sum, dates)
    go Addition sum dates = refl

-- what begins with no line of the sum and none of a date does not go on with them
other-head : (c : Catalogue) (rest : List ℕ) → begins sum_name rest ≡ false → date_begins rest ≡ false → head_goes_on c rest ≡ false
other-head c rest sum dates = rw (sum, dates, and-false (undated c.opening c.closing), and-false (unsummed c.sum))

-- ---- the lengths behind them

-- lines of lengths end what is in front of them; without any it ends where the text does
pub ends-head : (c : Catalogue) (ns rest : List ℕ) → Ends c ns rest → (begins length_name rest ≡ false) × (head_goes_on c (length_text ns ++ rest) ≡ false)
unfolding length_text begins
ends-head c ns rest ends = ((either-ends (begins length_name rest) (unmeasured ns && head_goes_on c rest) ends).0, go ns ends)
  where
    either-ends : (t u : Bool) → t || u ≡ false → (t ≡ false) × (u ≡ false)
    either-ends true u e = absurd (true≢false e)
    either-ends false u e = (refl, e)

    go : (ns : List ℕ) → Ends c ns rest → head_goes_on c (length_text ns ++ rest) ≡ false
    go [] ends = (either-ends (begins length_name rest) (head_goes_on c rest) ends).1
    go (n ∷ ns) ends = other-head c (length_text (n ∷ ns) ++ rest) refl (other-begins 108 _ (λ z. omega arith) (λ z. omega arith))

pub head-ends : (c : Catalogue) (ns rest : List ℕ) → begins length_name rest ≡ false → head_goes_on c (length_text ns ++ rest) ≡ false → Ends c ns rest
unfolding length_text
head-ends c [] rest stops head = rw (stops, head)
head-ends c (n ∷ ns) rest stops head = rw stops

-- ---- any rest

pub other-ends : (c : Catalogue) (ns rest : List ℕ) → begins length_name rest ≡ false → begins sum_name rest ≡ false → date_begins rest ≡ false
    → goes_on c ns rest ≡ false
other-ends c ns rest lengths sum dates = rw (lengths, other-head c rest sum dates, and-false (unmeasured ns))

pub ends-nothing : (c : Catalogue) (ns : List ℕ) → goes_on c ns [] ≡ false
unfolding begins
ends-nothing c ns = other-ends c ns [] refl refl nothing-begins
