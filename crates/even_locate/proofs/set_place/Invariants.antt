-- `even_locate::set_place` meets its contract: after `row` turns none of the rows before names the symbol, and the rows that are left decide.
use mathlib.Core.Path.{◌≡◌}
use Prim.Native.Nat.{◌-◌, ◌*◌}
use lib.ListN.{drop, replicate}
use Rattle.even_sets.specs.Sets.{set_in}
use Rattle.scheme.specs.Asked.{later, place_naming}
use Rattle.even_scheme.specs.Asked.{set_rows}
use Rattle.even_locate.proofs.set_place.Given as goal

abbrev pub invariant-loop-row : goal.invariant-loop-row
invariant-loop-row l =
    place_naming l.s l.message l.symbol (set_rows (replicate l.rows (set_in l.k l.set)) l.numbers)
    ≡ later (l.row * l.s) (place_naming l.s l.message l.symbol (set_rows (replicate (l.rows - l.row) (set_in l.k l.set)) (drop (l.row * l.size) l.numbers)))
