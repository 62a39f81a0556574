-- `short_rows::answering::Messages::gather` meets its contract: what is gathered so far, with what the digits left will name, gives the whole.
use mathlib.Core.Path.{◌≡◌}
use mathlib.Core.Bool.{false}
use Prim.Native.Nat.{◌+◌, ◌*◌}
use lib.ListN.{drop}
use Rattle.symbol.specs.Operations.{sum_of}
use Rattle.short_scheme.specs.Short.{named}
use Rattle.short_rows.specs.Steps.{gathered}
use Rattle.short_rows.proofs.answering.Messages.gather.Given as goal

abbrev pub invariant-loop-p : goal.invariant-loop-p
invariant-loop-p l =
    gathered (sum_of l.self.op) l.begun l.out (named (l.self.first + l.p * l.self.stride) l.self.stride l.self.size l.store (drop l.p l.row))
    ≡ gathered (sum_of l.self.op) false l.initial.out (named l.self.first l.self.stride l.self.size l.store l.row)
