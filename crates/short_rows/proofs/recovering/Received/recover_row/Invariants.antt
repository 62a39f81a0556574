-- `short_rows::recovering::Received::recover_row` meets its contract: after each turn, what the symbols left will add to the message gives the whole.
use mathlib.Core.Path.{◌≡◌}
use mathlib.Core.List.{flat_map}
use Prim.Native.Nat.{◌-◌, ◌*◌}
use Rattle.lists.specs.Parts.{lay}
use Rattle.lists.specs.Ranges.{range}
use Rattle.symbol.specs.Operations.{sum_of}
use Rattle.short_rows.specs.Steps.{from_places}
use Rattle.short_rows.proofs.recovering.Received.recover_row.Given as goal

abbrev pub invariant-loop-d : goal.invariant-loop-d
invariant-loop-d l =
    lay ((l.d - 1) * l.self.size) (flat_map (from_places (sum_of l.self.op) l.self.servers l.self.size l.self.none l.empty l.starts l.self.answers.now) (range l.d (l.self.servers - l.d))) l.message
    ≡ lay 0 (flat_map (from_places (sum_of l.self.op) l.self.servers l.self.size l.self.none l.empty l.starts l.self.answers.now) (range 1 (l.self.servers - 1))) l.initial.message
