-- `recover` meets its contract: after each server the parts of the servers up to it are written.
use mathlib.Core.Path.{◌≡◌}
use Rattle.symbol.specs.Operations.{sum_of}
use Rattle.lists.specs.Assembled.{lay_all}
use Rattle.even_recover.proofs.Servers.{parts_before}
use Rattle.even_recover.proofs.recover.Given as goal

abbrev pub invariant-loop-server : goal.invariant-loop-server
invariant-loop-server l =
    l.message ≡ lay_all (parts_before (sum_of l.fn.op) l.n l.k l.s l.wanted l.key l.answers l.server) l.initial.message
