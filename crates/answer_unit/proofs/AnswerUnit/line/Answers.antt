-- `answer_unit::AnswerUnit::line` meets its contract: by the flag.

use Rattle.answer_unit.proofs.AnswerUnit.line.Goals as goal

pub returns-then-self : goal.returns-then-self
returns-then-self c = rw c.if-self.true

pub returns : goal.returns
returns c = rw c.if-self.false
