-- `even_ranks::takings` meets its contract: after i turns the entries from i on are still to be written.
use mathlib.Core.Path.{◌≡◌}
use mathlib.Core.List.{◌++◌}
use lib.ListN.{take}
use Rattle.even_ranks.specs.Counts.{taken_table}
use Rattle.even_ranks.proofs.Steps.{taken_from}
use Rattle.even_ranks.proofs.takings.Given as goal

abbrev pub invariant-loop-i : goal.invariant-loop-i
invariant-loop-i l = (take l.i l.entry-items ++ taken_from l.n l.wanted l.totals l.i ≡ taken_table l.n l.wanted l.totals)
