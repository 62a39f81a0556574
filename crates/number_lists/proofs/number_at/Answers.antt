-- `number_lists::number_at` meets its contract: past the end there is no number, and the part that is lent goes to the end.
use mathlib.Core.Path.{sym}
use native.Mathlib.Omega.{arith}
use Rattle.number_lists.proofs.Reading.{numeral-past}
use Rattle.number_lists.proofs.number_at.Goals as goal

pub returns-then-text-at : goal.returns-then-text-at
returns-then-text-at c = sym (numeral-past c.args.text.now c.args.at (omega arith))
