-- What a query of the round code asks for (document 02, item 8; the shape is that of scheme/specs/Asked.antt): the rows of its blocks one after another.
use Rattle.std.specs.Prelude.{ℕ, ◌-◌, ◌*◌}
use mathlib.Core.List.{List, flat_map}
use Rattle.lists.specs.Ranges.{range}
use Rattle.parameters.specs.Bounds.{blocks}
use Rattle.scheme.specs.Asked.{Cell}
use Rattle.short_scheme.specs.Asked.{digit_rows}
use Rattle.round_scheme.specs.Round.{row}

-- row i names symbols of block i only, and the row of zeros takes no bytes
unfoldable pub block_rows : ℕ → ℕ → List ℕ → List (List Cell)
block_rows N K query = flat_map (λ i. digit_rows (i * (N - 1)) (row K query i)) (range 0 (blocks N K))
