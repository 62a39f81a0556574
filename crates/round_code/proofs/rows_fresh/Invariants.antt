-- `round_code::rows_fresh` meets its contract: the rows so far are the server's, and what is left of their numbers decides, with the marks so far.
use mathlib.Core.Path.{◌≡◌}
use mathlib.Core.Bool.{true}
use Prim.Native.Nat.{ℕ, ◌<◌}
use lib.ListN.{length, drop}
use Rattle.lists.specs.Distinct.{is_permutation}
use Rattle.lists.proofs.Passes.{passes}
use Rattle.short_scheme.specs.Short.{short_admits}
use Rattle.round_scheme.specs.Round.{row}
use Rattle.round_scheme.proofs.Exchange.{round_key}
use Rattle.round_code.proofs.rows_fresh.Given as goal

abbrev pub invariant-loop-i : goal.invariant-loop-i
invariant-loop-i l =
    (length l.seen ≡ 64) × ((j : ℕ) → j < l.i → short_admits l.n l.k l.server (row l.k l.query j) ≡ true)
    × (is_permutation l.v (round_key l.n l.k 0 l.query) ≡ passes l.v l.seen (drop l.i (round_key l.n l.k 0 l.query)))
