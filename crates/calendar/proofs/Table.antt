-- The calendar's rule at its edges, computed: which days are real, how many days the 400 years have, and a season's days.
use mathlib.Core.Path.{◌≡◌, refl}
use mathlib.Core.Bool.{Bool, true, false}
use mathlib.Core.List.{List, [], ◌∷◌, map}
use Prim.Native.Nat.{ℕ}
use Rattle.lists.specs.Distinct.{stands}
use Rattle.lists.specs.Ranges.{range}
use Rattle.lists.specs.Sums.{sum}
use Rattle.calendar.specs.declared.Day.{Day}
use Rattle.calendar.specs.Calendar.{leap_year, days_in, real_day, before, in_season, no_day}

abbrev on : ℕ → ℕ → ℕ → Day
on year month day = record { year = year; month = month; day = day }

-- a day, and whether it is real
abbrev pub edges : List (Day × Bool)
edges =
    (on 2000 1 1, true) ∷ (on 1999 12 31, false)
    ∷ (on 2399 12 31, true) ∷ (on 2400 1 1, false)
    ∷ (on 2000 2 29, true) ∷ (on 2024 2 29, true) ∷ (on 2096 2 29, true) ∷ (on 2396 2 29, true)
    ∷ (on 2100 2 29, false) ∷ (on 2200 2 29, false) ∷ (on 2300 2 29, false) ∷ (on 2023 2 29, false) ∷ (on 2399 2 29, false)
    ∷ (on 2100 2 28, true) ∷ (on 2024 2 30, false)
    ∷ (on 2024 0 1, false) ∷ (on 2024 12 1, true) ∷ (on 2024 13 1, false)
    ∷ (on 2024 1 0, false) ∷ (on 2024 1 31, true) ∷ (on 2024 1 32, false)
    ∷ (on 2024 4 30, true) ∷ (on 2024 4 31, false)
    ∷ (no_day, false) ∷ []

pub edges-right : map (λ (e : Day × Bool). real_day e.0) edges ≡ map (λ (e : Day × Bool). e.1) edges
unfolding real_day days_in leap_year stands
edges-right = refl

-- the days of each month, in a common year and in a leap year
pub common-year : map (days_in 2023) (range 1 12) ≡ 31 ∷ 28 ∷ 31 ∷ 30 ∷ 31 ∷ 30 ∷ 31 ∷ 31 ∷ 30 ∷ 31 ∷ 30 ∷ 31 ∷ []
unfolding days_in leap_year stands range
common-year = refl

pub leap-year : map (days_in 2024) (range 1 12) ≡ 31 ∷ 29 ∷ 31 ∷ 30 ∷ 31 ∷ 30 ∷ 31 ∷ 31 ∷ 30 ∷ 31 ∷ 30 ∷ 31 ∷ []
unfolding days_in leap_year stands range
leap-year = refl

-- 400 years of the Gregorian calendar have 146097 days
pub days-in-all : sum (λ year. sum (days_in year) (range 1 12)) (range 2000 400) ≡ 146097
unfolding days_in leap_year stands range sum
days-in-all = refl

-- a season over the end of a year: the day before it, its first day, two days within, its last day, and the closing day
pub season-days : map (in_season (on 2099 12 30) (on 2100 3 1)) (on 2099 12 29 ∷ on 2099 12 30 ∷ on 2099 12 31 ∷ on 2100 1 1 ∷ on 2100 2 28 ∷ on 2100 3 1 ∷ [])
    ≡ false ∷ true ∷ true ∷ true ∷ true ∷ false ∷ []
unfolding in_season before
season-days = refl
