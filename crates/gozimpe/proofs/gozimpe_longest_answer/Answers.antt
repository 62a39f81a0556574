-- `gozimpe::gozimpe_longest_answer` meets its contract: a catalogue that was read is admitted, and so it is measured.
use mathlib.Core.Path.{sym, ap, ◌∙◌}
use native.Mathlib.Omega.{arith}
use lib.IntN.{pos}
use mir.Syntax.{w64}
use mir.Facts.{to_z-of_z}
use Rattle.refusal.proofs.Chain.{not-refused}
use Rattle.parameters.specs.declared.Sizes.{Sizes}
use Rattle.codes.proofs.Measured.{measured, unmeasured}
use Rattle.gozimpe.specs.Host.{signed}
use Rattle.gozimpe.proofs.Outcomes.{slot_small, read-admitted, longest-refused, longest-given}
use Rattle.gozimpe.proofs.gozimpe_longest_answer.Goals as goal

pub returns-in-Err : goal.returns-in-Err
returns-in-Err c = let text = c.args.catalogue.now in
    let from = c.read-reading in
    to_z-of_z {w = w64} (record { sfits = c.minus.type_inv }) ∙ c.minus.ensures ∙ ap signed (sym (longest-refused text c.read-reading.result c.read-reading.ensures c.in-Err.refusal c.in-Err.is))

pub plus-requires : goal.plus-requires
plus-requires c = let sized = c.sizes in
    let value = c.read-reading.result.catalogue in
    let m = measured value c.sizes.result c.in-Ok.sizes c.sizes.ensures c.in-Ok.is in
    let e = ap (λ (s : Sizes). s.slot) m.1 in
    omega (arith, slot_small value m.0)

pub returns-in-Ok : goal.returns-in-Ok
returns-in-Ok c = let text = c.args.catalogue.now in
    let from = c.read-reading in
    let accepted = c.in_default.is in
    let sized = c.sizes in
    to_z-of_z {w = w64} (record { sfits = c.plus.type_inv }) ∙ c.plus.ensures
    ∙ ap (λ (s : Sizes). pos s.slot) (measured c.read-reading.result.catalogue c.sizes.result c.in-Ok.sizes c.sizes.ensures c.in-Ok.is).1
    ∙ ap signed (sym (longest-given text c.read-reading.result c.read-reading.ensures accepted))

pub returns-in-Err-sizes : goal.returns-in-Err-sizes
returns-in-Err-sizes c = let text = c.args.catalogue.now in
    let from = c.read-reading in
    let accepted = c.in_default.is in
    let sized = c.sizes in
    let refused = unmeasured c.read-reading.result.catalogue c.sizes.result c.in-Err-sizes.refusal c.sizes.ensures c.in-Err-sizes.is in
    not-refused c.in-Err-sizes.refusal (sym refused ∙ read-admitted text c.read-reading.result c.read-reading.ensures accepted)
