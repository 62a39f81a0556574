-- The table of first rows of an even query (document 01, 'Even code'; source 003, section IV-B).
use Rattle.std.specs.Prelude.{ℕ, ◌^◌, cond, ◌&&◌, List, map, ltb}
use Rattle.lists.specs.Ranges.{range}
use Rattle.even_places.specs.Rule.{layout, first_row}
use Rattle.even_sets.specs.Sets.{set_in}

-- the number of the first row of a byte's set in a query, and 0 if the byte is no set of K messages or the empty one
unfoldable pub first_row_of : ℕ → ℕ → ℕ → ℕ
first_row_of N K byte = cond (ltb 0 byte && ltb byte (2 ^ K)) (first_row (set_in K byte) (layout N K)) 0

unfoldable pub first_rows : ℕ → ℕ → List ℕ
first_rows N K = map (first_row_of N K) (range 0 256)
