-- `gozimpe::correcting::gozimpe_correct_answer` meets its contract: a text that is refused ends the call, and else the correction's verdict gets its sign.
use mathlib.Core.Path.{ap, ◌∙◌}
use mir.Syntax.{w64}
use mir.Facts.{to_z-of_z}
use Rattle.gozimpe.specs.Correcting.{signed_verdict, edit_of}
use Rattle.gozimpe.proofs.TextCorrections.{answer-text-refused, answer-text-corrected}
use Rattle.gozimpe.proofs.correcting.gozimpe_correct_answer.Goals as goal

pub returns-in-Err : goal.returns-in-Err
returns-in-Err c = let a = c.args in
    let from = c.read-reading in
    let did = answer-text-refused a.mirror a.store.now a.request.now (edit_of a.pack a.piece a.byte a.value) a.answer.now
    a.catalogue.now c.read-reading.result c.read-reading.ensures c.in-Err.fault c.in-Err.is in
    record {
      value = to_z-of_z {w = w64} (record { sfits = c.minus.type_inv }) ∙ c.minus.ensures ∙ ap signed_verdict did.verdict;
      answer_after = did.answer;
    }

pub returns : goal.returns
returns c = let a = c.args in
    let from = c.read-reading in
    let asked = c.correct_answer in
    let did = answer-text-corrected a.mirror a.store.now a.request.now (edit_of a.pack a.piece a.byte a.value) a.answer.now
    a.catalogue.now c.read-reading.result c.read-reading.ensures c.in_default.is
    c.correct_answer.result a.store.now _ (rw c.edit_of-edit.ensures at c.correct_answer.ensures) in
    record {
      value = to_z-of_z {w = w64} (record { sfits = c.told.type_inv }) ∙ c.told.ensures ∙ ap signed_verdict did.verdict;
      answer_after = did.answer;
    }
