-- `Answered::from_group` meets its contract: after i turns the parts of the first i rows are written.
use mathlib.Core.Path.{◌≡◌}
use mathlib.Core.List.{map}
use Prim.Native.Nat.{◌+◌, ◌*◌}
use Rattle.lists.specs.Ranges.{range}
use Rattle.symbol.specs.Operations.{sum_of}
use Rattle.lists.specs.Assembled.{lay_all}
use Rattle.even_recover.specs.Rows.{group_part}
use Rattle.even_recover.proofs.Answered.from_group.Given as goal

abbrev pub invariant-loop-i : goal.invariant-loop-i
invariant-loop-i l =
    (l.cell ≡ l.group.cell + l.i * l.group.messages)
    × (l.message ≡ lay_all (map (group_part (sum_of l.self.op) l.self.here l.group l.self.query.now l.self.answers.now) (range 0 l.i)) l.initial.message)
