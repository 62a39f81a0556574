-- Days, number by number: what a real day's numbers are (`real`), and that one is never the three zeros (`real-given`).
use Rattle.std.proofs.Common.{◌≡◌, ℕ, ◌≤◌, true, false, arith}
use Rattle.std.proofs.lemmas.Bool.Decides.{nat_tests}
use Rattle.calendar.specs.declared.Day.{Day}
use Rattle.calendar.specs.Calendar.{days_in, real_day, no_day, is_none}

-- ---- real days

-- the numbers of a real day
pub record Real (d : Day) : Type 0 where
  pub year-low : 2000 ≤ d.year
  pub year-high : d.year ≤ 2399
  pub month-low : 1 ≤ d.month
  pub month-high : d.month ≤ 12
  pub day-low : 1 ≤ d.day
  pub day-high : d.day ≤ days_in d.year d.month

pub real : (d : Day) → real_day d ≡ true → Real d
unfolding real_day
real d e = grind (arith, nat_tests)

-- no month is longer than 31 days
pub days-high : (year month : ℕ) → days_in year month ≤ 31
unfolding days_in
days-high year month = grind (arith, nat_tests)

-- ---- no day

pub same-day : (a b : Day) → a.year ≡ b.year → a.month ≡ b.month → a.day ≡ b.day → a ≡ b
same-day a b y m d = grind arith

pub none_is : (d : Day) → is_none d ≡ true → d ≡ no_day
unfolding is_none
none_is d e = grind (arith, nat_tests)

-- a real day is given
pub real-given : (d : Day) → real_day d ≡ true → is_none d ≡ false
unfolding is_none real_day
real-given d e = grind (arith, nat_tests)
