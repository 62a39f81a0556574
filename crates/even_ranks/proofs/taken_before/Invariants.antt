-- `even_ranks::taken_before` meets its contract: after j turns `sum` is what is taken in the blocks before j, and `rows` is (N - 1)^j.
use mathlib.Core.Path.{◌≡◌}
use Prim.Native.Nat.{◌-◌, ◌^◌}
use Rattle.even_ranks.specs.Counts.{taken}
use Rattle.even_ranks.proofs.taken_before.Given as goal

abbrev pub invariant-loop-j : goal.invariant-loop-j
invariant-loop-j l = (l.sum ≡ taken l.n l.wanted l.totals l.j l.p) × (l.rows ≡ (l.n - 1) ^ l.j)
