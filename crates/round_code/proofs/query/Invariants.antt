-- `round_code::query` meets its contract: after i turns the first i rows are written.
use mathlib.Core.Path.{◌≡◌}
use mathlib.Core.List.{List, flat_map}
use Prim.Native.Nat.{ℕ}
use Rattle.lists.specs.Parts.{put}
use Rattle.lists.specs.Ranges.{range}
use Rattle.short_scheme.specs.Short.{short_query}
use Rattle.round_scheme.specs.Round.{short_key}
use Rattle.round_code.proofs.query.Given as goal

abbrev pub asked : ℕ → ℕ → ℕ → ℕ → List ℕ → ℕ → List ℕ
asked n k wanted server key i = short_query n wanted server (short_key n k key i)

abbrev pub invariant-loop-i : goal.invariant-loop-i
invariant-loop-i l =
    l.out ≡ put 0 (flat_map (asked l.n l.k l.wanted l.server l.key) (range 0 l.i)) l.initial.out
