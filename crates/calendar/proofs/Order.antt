-- Days are strictly ordered: none comes before itself, the order carries on, and of two different days one comes before the other. This holds of
-- any three numbers, and so of real days. What follows for a season.
use Rattle.std.proofs.Common.{◌≡◌, true, false, ◌⊎◌, arith}
use Rattle.std.proofs.lemmas.Bool.Decides.{nat_tests}
use Rattle.calendar.specs.declared.Day.{Day}
use Rattle.calendar.specs.Calendar.{before, in_season}

-- ---- a strict order

pub before-irreflexive : (a : Day) → before a a ≡ false
unfolding before
before-irreflexive a = grind (arith, nat_tests)

pub before-transitive : (a b c : Day) → before a b ≡ true → before b c ≡ true → before a c ≡ true
unfolding before
before-transitive a b c e f = grind (arith, nat_tests)

pub before-total : (a b : Day) → (before a b ≡ true) ⊎ ((a ≡ b) ⊎ (before b a ≡ true))
unfolding before
before-total a b = grind (arith, nat_tests)

-- ---- a season

-- the opening day is inside, where it comes before the closing day
pub opening-inside : (opening closing : Day) → before opening closing ≡ true → in_season opening closing opening ≡ true
unfolding in_season before
opening-inside opening closing e = grind (arith, nat_tests)

-- the closing day is outside
pub closing-outside : (opening closing : Day) → in_season opening closing closing ≡ false
unfolding in_season before
closing-outside opening closing = grind (arith, nat_tests)

-- a season that has a day in it opens before it closes
pub season-opens : (opening closing today : Day) → in_season opening closing today ≡ true → before opening closing ≡ true
unfolding in_season before
season-opens opening closing today e = grind (arith, nat_tests)
