-- `season_text::day_in` meets its contract: the numbers are taken two digits at a time.
use native.Mathlib.Omega.{arith}
use Rattle.season_text.specs.DayLines.{day_in}
use Rattle.season_text.proofs.DayTexts.{year-value}
use Rattle.season_text.proofs.day_in.Goals as goal

pub returns : goal.returns
unfolding day_in
returns c = let text = c.args.text.now in
    simp (
      c.pair_in.ensures.value,
      c.pair_in-2.ensures.value,
      c.pair_in-3.ensures.value,
      c.pair_in-4.ensures.value,
      year-value text (omega arith),
    )
