-- `answer_unit::writing::answered` meets its contract: with an overrun it is refused, and else it ends as answering does.
use mathlib.Core.Path.{◌∙◌}
use Rattle.answer_unit.specs.Registers.{answer_of}
use Rattle.answer_unit.proofs.Steps.{ended_so}
use Rattle.answer_unit.proofs.writing.answered.Goals as goal

pub returns-then-unit : goal.returns-then-unit
unfolding answer_of
returns-then-unit c = rw (c.ended.ensures, c.if-unit.true)

pub returns : goal.returns
returns c = let a = c.args in
    let day = c.none in
    let did = c.answer-outcome in
    let no-overrun = c.if-unit.false in
    c.ended-2.ensures ∙ ended_so a.unit a.store.now c.none.result c.answer-outcome.result _ no-overrun c.none.ensures c.answer-outcome.ensures
