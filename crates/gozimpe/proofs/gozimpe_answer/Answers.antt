-- `gozimpe::gozimpe_answer` meets its contract: a text that is refused ends the call, and else the answering end's outcome gets its sign.
use mathlib.Core.Path.{sym, ap, ◌∙◌}
use mir.Syntax.{w64}
use mir.Facts.{to_z-of_z}
use Rattle.gozimpe.specs.Host.{signed, day_of}
use Rattle.gozimpe.proofs.Outcomes.{answer-small, text-refused, text-answered}
use Rattle.gozimpe.proofs.gozimpe_answer.Goals as goal

pub returns-in-Err : goal.returns-in-Err
returns-in-Err c = let a = c.args in
    let from = c.read-reading in
    let did = text-refused a.catalogue.now c.read-reading.result c.read-reading.ensures (day_of a.year a.month a.day)
    a.mirror a.store.now a.request.now a.answer.now c.in-Err.fault c.in-Err.is in
    record {
      value = to_z-of_z {w = w64} (record { sfits = c.minus.type_inv }) ∙ c.minus.ensures ∙ ap signed did.outcome;
      answer_after = did.buffer;
    }

pub plus-requires : goal.plus-requires
plus-requires c = let a = c.args in
    let asked = c.answer-outcome in
    let value = c.read-reading.result.catalogue in
    answer-small value (day_of a.year a.month a.day) a.mirror a.store.now a.request.now a.answer.now
    c.answer-outcome.result c.in-Ok.length c.answer-outcome.ensures.outcome c.in-Ok.is

pub returns-in-Ok : goal.returns-in-Ok
returns-in-Ok c = let a = c.args in
    let from = c.read-reading in
    let asked = c.answer-outcome in
    let did = text-answered a.catalogue.now c.read-reading.result c.read-reading.ensures (day_of a.year a.month a.day)
    a.mirror a.store.now a.request.now a.answer.now
    c.in_default.is c.answer-outcome.result _ c.answer-outcome.ensures in
    record {
      value = to_z-of_z {w = w64} (record { sfits = c.plus.type_inv }) ∙ c.plus.ensures ∙ ap signed (sym c.in-Ok.is ∙ did.outcome);
      answer_after = did.buffer;
    }

pub returns-in-Err-outcome : goal.returns-in-Err-outcome
returns-in-Err-outcome c = let a = c.args in
    let from = c.read-reading in
    let asked = c.answer-outcome in
    let did = text-answered a.catalogue.now c.read-reading.result c.read-reading.ensures (day_of a.year a.month a.day)
    a.mirror a.store.now a.request.now a.answer.now
    c.in_default.is c.answer-outcome.result _ c.answer-outcome.ensures in
    record {
      value = to_z-of_z {w = w64} (record { sfits = c.minus-in-Err-outcome.type_inv }) ∙ c.minus-in-Err-outcome.ensures ∙ ap signed (sym c.in-Err-outcome.is ∙ did.outcome);
      answer_after = did.buffer;
    }
