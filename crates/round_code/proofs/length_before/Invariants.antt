-- `round_code::length_before` meets its contract: after i turns the total is that of the rows before row i.
use mathlib.Core.Path.{◌≡◌}
use Rattle.round_scheme.specs.Round.{length_before}
use Rattle.round_code.proofs.length_before.Given as goal

abbrev pub invariant-loop-i : goal.invariant-loop-i
invariant-loop-i l = l.total ≡ length_before l.k l.s l.query l.i
