-- `answer_unit::writing::acknowledge` meets its contract: by bit 0.
use mathlib.Core.Path.{sym, ◌∙◌}
use Rattle.answer_unit.specs.Registers.{acknowledge}
use Rattle.answer_unit.proofs.writing.acknowledge.Goals as goal

pub returns-then-bit : goal.returns-then-bit
unfolding acknowledge
returns-then-bit c = rw (sym c.bit.ensures ∙ c.if-bit.true)

pub returns-else-bit : goal.returns-else-bit
unfolding acknowledge
returns-else-bit c = rw (sym c.bit.ensures ∙ c.if-bit.false)
