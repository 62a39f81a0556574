-- `answer_unit::writing::start` meets its contract: the bytes are answered, and then three fields set.
use Rattle.answer_unit.specs.Registers.{start}
use Rattle.answer_unit.proofs.writing.start.Goals as goal

pub returns : goal.returns
unfolding start
returns c = rw c.answered-after.ensures
