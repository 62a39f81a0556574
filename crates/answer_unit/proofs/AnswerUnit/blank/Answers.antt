-- `answer_unit::AnswerUnit::blank` meets its contract: a fresh unit of the zero catalogue.
use Rattle.answer_unit.specs.Unit.{zero_unit}
use Rattle.answer_unit.proofs.AnswerUnit.blank.Goals as goal

pub returns : goal.returns
unfolding zero_unit
returns c = rw (c.fresh.ensures, c.zero.ensures)
