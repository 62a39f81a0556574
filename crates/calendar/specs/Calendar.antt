-- The Gregorian calendar of the years 2000 to 2399 (document 02, item 1): its days, their order, and the days of a season.
use Rattle.std.specs.Prelude.{ℕ, ◌%◌, Bool, cond, not, ◌&&◌, ◌||◌, List, [], ◌∷◌, leb, ltb, eqb}
use Rattle.lists.specs.Distinct.{stands}
use Rattle.calendar.specs.declared.Day.{Day}

-- every fourth year is a leap year, but of those that end a century only every fourth
unfoldable pub leap_year : ℕ → Bool
leap_year year = eqb (year % 4) 0 && (not (eqb (year % 100) 0) || eqb (year % 400) 0)

-- the months of 30 days
abbrev pub short_months : List ℕ
short_months = 4 ∷ 6 ∷ 9 ∷ 11 ∷ []

-- the days in a month of a year
unfoldable pub days_in : ℕ → ℕ → ℕ
days_in year month = cond (eqb month 2) (cond (leap_year year) 29 28) (cond (stands month short_months) 30 31)

-- `n` is one of the numbers from `first` to `last`
abbrev pub within : ℕ → ℕ → ℕ → Bool
within first last n = leb first n && leb n last

-- the three numbers are a day of the calendar (02: a real day of those years)
unfoldable pub real_day : Day → Bool
real_day d = within 2000 2399 d.year && (within 1 12 d.month && within 1 (days_in d.year d.month) d.day)

-- day a comes before day b: the year decides, then the month, then the day
unfoldable pub before : Day → Day → Bool
before a b =
    ltb a.year b.year
    || eqb a.year b.year && (ltb a.month b.month || eqb a.month b.month && ltb a.day b.day)

-- the opening day is inside and the closing day outside: today does not come before the opening, and comes before the closing
unfoldable pub in_season : Day → Day → Day → Bool
in_season opening closing today = not (before today opening) && before today closing

-- three zeros, where no day is given
abbrev pub no_day : Day
no_day = record { year = 0; month = 0; day = 0 }

-- the three numbers are zeros
unfoldable pub is_none : Day → Bool
is_none d = eqb d.year 0 && (eqb d.month 0 && eqb d.day 0)

-- the places of two dates are empty: no dates are given
unfoldable pub undated : Day → Day → Bool
undated opening closing = is_none opening && is_none closing
