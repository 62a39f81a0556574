-- `run` is safe and ends: each turn goes at least one byte on, and the lengths of the buffers stay.
use mathlib.Core.Path.{◌≡◌}
use Prim.Native.Nat.{◌-◌}
use lib.ListN.{length}
use Rattle.conformance_corrections.proofs.run.Given as goal

abbrev pub invariant-loop-at : goal.invariant-loop-at
invariant-loop-at l =
    (length l.store ≡ length l.initial.store) × (length l.queries ≡ length l.initial.queries) × (length l.answers ≡ length l.initial.answers) × (length l.fresh ≡ length l.initial.fresh)

abbrev pub decreases-loop-at : goal.decreases-loop-at
decreases-loop-at l = length l.text - l.at
