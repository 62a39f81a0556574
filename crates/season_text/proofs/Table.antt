-- Texts and what is read at their start, computed: the text of a day, two lines in form, no line, and lines out of form.
use mathlib.Core.Path.{◌≡◌, refl}
use mathlib.Core.List.{List, [], ◌∷◌, map}
use Prim.Native.Nat.{ℕ}
use Prim.Native.String.{String}
use Rattle.lists.specs.Ascii.{ascii}
use Rattle.lists.specs.Distinct.{stands}
use Rattle.std.specs.Prelude.{Option, Some, None}
use Rattle.text_lines.specs.Decimal.{value_from}
use Rattle.text_lines.specs.Lines.{begins}
use Rattle.calendar.specs.declared.Day.{Day}
use Rattle.calendar.specs.Calendar.{leap_year, days_in, real_day, no_day}
use Rattle.season_text.specs.declared.Season.{Season}
use Rattle.season_text.specs.DayLines.{day_text, day_in, day_at, day_line}
use Rattle.season_text.specs.SeasonLines.{date_begins, season_of, season_lines}

abbrev on : ℕ → ℕ → ℕ → Day
on year month day = record { year = year; month = month; day = day }

pub a-day : day_text (on 2024 2 9) ≡ ascii "2024-02-09\n"
unfolding day_text
a-day = refl

-- a text, and what is read at its start
abbrev pub texts : List (String × Option Season)
texts =
    ("open=2024-02-29\nclose=2024-03-01\n", Some (season_of (on 2024 2 29) (on 2024 3 1) 33))
    ∷ ("open=2399-12-31\nclose=2000-01-01\nsum=add\n", Some (season_of (on 2399 12 31) (on 2000 1 1) 33))
    ∷ ("sum=add\n", Some (season_of no_day no_day 0)) ∷ ("", Some (season_of no_day no_day 0))
    ∷ ("open=2024-02-29\n", None) ∷ ("close=2024-03-01\n", None)
    ∷ ("close=2024-03-01\nopen=2024-02-29\n", None)
    ∷ ("open=2100-02-29\nclose=2100-03-01\n", None)
    ∷ ("open=2024-13-01\nclose=2025-01-01\n", None)
    ∷ ("open=2024-01-01\nclose=2400-01-01\n", None)
    ∷ ("open=20240-02-09\nclose=2024-03-01\n", None)
    ∷ ("open=2024/02/09\nclose=2024-03-01\n", None)
    ∷ ("open=2024-2-9\nclose=2024-03-01\n", None)
    ∷ ("open=2024-02-29\nclose=2024-03-01", None) ∷ []

pub texts-right : map (λ (e : String × Option Season). season_lines (ascii e.0) 0) texts ≡ map (λ (e : String × Option Season). e.1) texts
unfolding season_lines date_begins begins day_line day_at day_in day_text value_from real_day days_in leap_year stands
texts-right = refl
