-- `gozimpe::correcting::told` meets its contract: an accepted verdict is 0, and a refusal gets its minus sign.
use mathlib.Core.Path.{sym, ap, ◌∙◌}
use mir.Syntax.{w64}
use mir.Facts.{to_z-of_z}
use Rattle.gozimpe.specs.Correcting.{signed_verdict}
use Rattle.gozimpe.proofs.correcting.told.Goals as goal

pub returns-in-Ok : goal.returns-in-Ok
returns-in-Ok c = ap signed_verdict (sym c.in-Ok.is)

pub returns-in-Err : goal.returns-in-Err
returns-in-Err c = to_z-of_z {w = w64} (record { sfits = c.minus.type_inv }) ∙ c.minus.ensures ∙ ap signed_verdict (sym c.in-Err.is)
