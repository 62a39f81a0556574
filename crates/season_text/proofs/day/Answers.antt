-- `season_text::day` meets its contract: the tests are the rule's, and a text shorter than a day's begins with none.
use mathlib.Core.Path.{sym}
use native.Mathlib.Omega.{arith}
use Rattle.season_text.specs.DayLines.{day_at}
use Rattle.season_text.proofs.DayTexts.{text-length}
use Rattle.season_text.proofs.DayLines.{day-short}
use Rattle.season_text.proofs.day.Goals as goal

pub returns-then-text-lt11 : goal.returns-then-text-lt11
returns-then-text-lt11 c = let a = c.args in sym (day-short a.at a.text.now c.if-text-lt11.true)

pub returns-then-not-is_real : goal.returns-then-not-is_real
unfolding day_at
returns-then-not-is_real c = grind arith

pub returns-then-not-starts : goal.returns-then-not-starts
unfolding day_at
returns-then-not-starts c = grind arith

pub returns : goal.returns
unfolding day_at
returns c = let l = text-length c.day_in-d.result in grind arith
