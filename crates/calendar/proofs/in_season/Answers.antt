-- `calendar::in_season` meets its contract: the order of days is that of their numbers.
use Rattle.std.proofs.Common.{arith}
use Rattle.std.proofs.lemmas.Bool.Decides.{nat_tests}
use Rattle.calendar.specs.Calendar.{before, in_season}
use Rattle.calendar.proofs.in_season.Goals as goal

pub returns-then-le : goal.returns-then-le
unfolding in_season before
returns-then-le c = grind (arith, nat_tests)
