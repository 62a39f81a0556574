-- `season_text::day_text` meets its contract, character by character.
use Rattle.season_text.specs.DayLines.{day_text}
use Rattle.season_text.proofs.day_text.Goals as goal

pub returns : goal.returns
unfolding day_text
returns c = simp (
  c.last_digit.ensures,
  c.last_digit-2.ensures,
  c.last_digit-3.ensures,
  c.last_digit-4.ensures,
  c.last_digit-5.ensures,
  c.last_digit-6.ensures,
  c.last_digit-7.ensures,
  c.last_digit-8.ensures,
)
