-- `gozimpe::correcting::gozimpe_correct` meets its contract: a text that is refused ends the call, and else the correction's verdict gets its sign.
use mathlib.Core.Path.{ap, ◌∙◌}
use mir.Syntax.{w64}
use mir.Facts.{to_z-of_z}
use Rattle.gozimpe.specs.Correcting.{signed_verdict, edit_of}
use Rattle.gozimpe.proofs.TextCorrections.{text-refused, text-corrected}
use Rattle.gozimpe.proofs.correcting.gozimpe_correct.Goals as goal

pub returns-in-Err : goal.returns-in-Err
returns-in-Err c = let a = c.args in
    let from = c.read-reading in
    let did = text-refused a.mirror a.store.now a.request.now (edit_of a.pack a.piece a.byte a.value) a.answer.now
    a.catalogue.now c.read-reading.result c.read-reading.ensures c.in-Err.fault c.in-Err.is in
    record {
      value = to_z-of_z {w = w64} (record { sfits = c.minus.type_inv }) ∙ c.minus.ensures ∙ ap signed_verdict did.verdict;
      store_after = did.store;
      answer_after = did.answer;
    }

pub returns : goal.returns
returns c = let a = c.args in
    let from = c.read-reading in
    let asked = c.correct in
    let did = text-corrected a.mirror a.store.now a.request.now (edit_of a.pack a.piece a.byte a.value) a.answer.now
    a.catalogue.now c.read-reading.result c.read-reading.ensures c.in_default.is
    c.correct.result _ _ (rw c.edit_of-edit.ensures at c.correct.ensures) in
    record {
      value = to_z-of_z {w = w64} (record { sfits = c.told.type_inv }) ∙ c.told.ensures ∙ ap signed_verdict did.verdict;
      store_after = did.store;
      answer_after = did.answer;
    }
