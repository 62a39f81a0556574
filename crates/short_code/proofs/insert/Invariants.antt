-- `short_code::insert` meets its contract: after p turns the first p digits of the query are written.
use mathlib.Core.Path.{◌≡◌}
use mathlib.Core.List.{◌++◌}
use lib.ListN.{take, drop}
use Rattle.lists.specs.Inserts.{insert_at}
use Rattle.short_code.proofs.insert.Given as goal

abbrev pub invariant-loop-p : goal.invariant-loop-p
invariant-loop-p l = l.out ≡ take l.p (insert_at l.wanted l.digit l.key) ++ drop l.p l.initial.out
