-- `answer_unit::fresh` meets its contract: it is the definition, field by field.
use mathlib.Core.Path.{refl}
use Rattle.answer_unit.specs.Unit.{fresh}
use Rattle.answer_unit.proofs.fresh.Goals as goal

pub returns : goal.returns
unfolding fresh
returns c = refl
