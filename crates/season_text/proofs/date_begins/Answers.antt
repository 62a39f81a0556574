-- `season_text::date_begins` meets its contract: the tests are the rule's.
use native.Mathlib.Omega.{arith}
use Rattle.season_text.specs.SeasonLines.{date_begins}
use Rattle.season_text.proofs.date_begins.Goals as goal

pub returns-then-starts : goal.returns-then-starts
unfolding date_begins
returns-then-starts c = grind arith

pub returns-else-starts : goal.returns-else-starts
unfolding date_begins
returns-else-starts c = grind arith
