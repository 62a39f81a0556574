-- `answer_unit::AnswerUnit::set_up` meets its contract: it goes by its verdict.
use Rattle.answer_unit.proofs.Steps.{set-up-by}
use Rattle.answer_unit.proofs.AnswerUnit.set_up.Goals as goal

pub returns-in-Err : goal.returns-in-Err
returns-in-Err c = let a = c.args in
    let v = c.set_up_verdict-verdict in
    rw (set-up-by a.c a.server c.set_up_verdict-verdict.result c.set_up_verdict-verdict.ensures, c.in-Err.is, c.blank.ensures)

pub returns : goal.returns
returns c = let a = c.args in
    let v = c.set_up_verdict-verdict in
    rw (set-up-by a.c a.server c.set_up_verdict-verdict.result c.set_up_verdict-verdict.ensures, c.in_default.is, c.fresh.ensures)
