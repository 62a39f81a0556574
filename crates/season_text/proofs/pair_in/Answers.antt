-- `season_text::pair_in` meets its contract: two digits, each at most 207.
use native.Mathlib.Omega.{arith}
use Rattle.season_text.proofs.DayTexts.{pair-value}
use Rattle.season_text.proofs.pair_in.Goals as goal

pub returns-clause-value : goal.returns-clause-value
returns-clause-value c = let v = pair-value 0 c.args.text.now c.args.i (omega arith) in omega arith
