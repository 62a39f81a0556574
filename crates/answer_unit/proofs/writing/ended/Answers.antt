-- `answer_unit::writing::ended` meets its contract: by the outcome.

use Rattle.answer_unit.proofs.writing.ended.Goals as goal

pub returns-in-Ok : goal.returns-in-Ok
returns-in-Ok c = rw c.in-Ok.is

pub returns-in-Err : goal.returns-in-Err
returns-in-Err c = rw (c.number.ensures, c.in-Err.is)
