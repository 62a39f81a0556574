-- The day of a call (document 02, item 1). Issue and answering are given today's date: under a catalogue with dates 13 is given for a day that is not
-- real, and 14 for one outside the season; without dates the day is not looked at. No other call tests a season.
use Rattle.std.specs.Prelude.{◌≡◌, Bool, not, ◌&&◌, List, [], ◌∷◌, ℕ}
use Rattle.refusal.specs.Verdicts.{Verdict, accepted}
use Rattle.refusal.specs.Foremost.{Fault, fault, foremost}
use Rattle.calendar.specs.declared.Day.{Day}
use Rattle.calendar.specs.Calendar.{real_day, in_season, undated}
use Rattle.catalogue.specs.declared.Catalogue.{Catalogue}

-- the catalogue has dates
abbrev pub dated : Catalogue → Bool
dated c = not (undated c.opening c.closing)

-- What a call of this day can be refused with, directly behind the catalogue's own faults
abbrev pub day_faults : Catalogue → Day → List Fault
day_faults c day = fault 13 (dated c && not (real_day day)) ∷ fault 14 (dated c && not (in_season c.opening c.closing day)) ∷ []

-- their numbers
abbrev pub day_numbers : List ℕ
day_numbers = 13 ∷ 14 ∷ []

unfoldable pub day_verdict : Catalogue → Day → Verdict
day_verdict c day = foremost (day_faults c day)

-- the catalogue is served on this day: neither of the two is there
abbrev pub Served : Catalogue → Day → Type 0
Served c day = day_verdict c day ≡ accepted
