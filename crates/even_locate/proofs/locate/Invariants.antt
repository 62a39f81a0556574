-- `even_locate::locate` meets its contract: after i turns no row of the sets before names the symbol, and the rows of the sets from i on decide.
use mathlib.Core.Path.{◌≡◌}
use Prim.Native.Nat.{◌+◌, ◌*◌}
use lib.ListN.{length, drop}
use Rattle.even_places.specs.Rule.{layout}
use Rattle.even_layout.proofs.Tables.{positions_from}
use Rattle.even_layout.proofs.RowRuns.{rows_from}
use Rattle.scheme.specs.Asked.{later, place_naming}
use Rattle.even_scheme.specs.Asked.{set_rows, layout_rows}
use Rattle.even_locate.proofs.locate.Given as goal

abbrev pub invariant-loop-set : goal.invariant-loop-set
invariant-loop-set l =
    (l.at + length (positions_from l.n l.k l.set-index) ≡ length l.query)
    × (l.end + length (rows_from l.n l.k l.set-index) * l.s ≡ length (layout l.n l.k) * l.s)
    × (place_naming l.s l.message l.symbol (layout_rows l.n l.k l.query) ≡ later l.end (place_naming l.s l.message l.symbol (set_rows (rows_from l.n l.k l.set-index) (drop l.at l.query))))
