-- `answer_unit::reading::after_read` meets its contract: by the register, and whether a byte waits.
use borrow.Author.Tests.{eq-eqb, ne_eqb}
use Rattle.answer_unit.specs.Registers.{after_read}
use Rattle.answer_unit.proofs.Steps.{none-taken}
use Rattle.answer_unit.proofs.reading.after_read.Goals as goal

pub returns-then-unit-gt0 : goal.returns-then-unit-gt0
unfolding after_read
returns-then-unit-gt0 c = rw (eq-eqb _ _ c.if-register-eq3.true)

pub returns-else-unit-gt0 : goal.returns-else-unit-gt0
unfolding after_read
returns-else-unit-gt0 c = rw (eq-eqb _ _ c.if-register-eq3.true) (none-taken c.args.unit c.if-unit-gt0.false)

pub returns-else-register-eq3 : goal.returns-else-register-eq3
unfolding after_read
returns-else-register-eq3 c = rw (ne_eqb _ _ c.if-register-eq3.false)
