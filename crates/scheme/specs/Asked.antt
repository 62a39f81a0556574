-- What a query asks for, in every code in one and the same shape (document 02, item 13: whether a request names a piece): rows in the order of their
-- answers, each a list of cells, a message and one of its symbols. A row that is answered with no bytes is none of them. The answer is the cells'
-- symbols combined, row by row (`rows_answer`). Each code says in its own crate which rows a query has: `digit_rows`, `block_rows`, `layout_rows`.
use Rattle.std.specs.Prelude.{ℕ, ◌+◌, ◌*◌, Bool, not, cond, ◌&&◌, eqb, Option, Some, None}
use mathlib.Core.List.{List, [], ◌∷◌, map, flat_map}
use Rattle.lists.specs.Sums.{bit, sum}
use Rattle.symbol.specs.Sum.{Sum, symbol_at, total}

-- a message, and the number of one of its symbols
abbrev pub Cell : Type 0
Cell = ℕ × ℕ

-- the symbol of a cell in a store whose messages have `symbols` symbols of S bytes
abbrev pub cell_symbol : ℕ → ℕ → List ℕ → Cell → List ℕ
cell_symbol symbols S store cell = symbol_at S store (cell.0 * symbols + cell.1)

-- of each row the cells' symbols combined, one row after another
unfoldable pub rows_total : Sum → ℕ → (Cell → List ℕ) → List (List Cell) → List ℕ
rows_total by S symbol_of rows = flat_map (λ cells. total by S (map symbol_of cells)) rows

abbrev pub rows_answer : Sum → ℕ → ℕ → List ℕ → List (List Cell) → List ℕ
rows_answer by symbols S store rows = rows_total by S (cell_symbol symbols S store) rows

-- ---- Which row names a symbol

-- the cell is symbol i of message p
abbrev pub is_cell : ℕ → ℕ → Cell → Bool
is_cell p i cell = eqb cell.0 p && eqb cell.1 i

-- how often a row names it
unfoldable pub times_in : ℕ → ℕ → List Cell → ℕ
times_in p i cells = sum (λ cell. bit (is_cell p i cell)) cells

-- a row names it
abbrev pub named_in : ℕ → ℕ → List Cell → Bool
named_in p i cells = not (eqb (times_in p i cells) 0)

-- so many bytes later, if anywhere
abbrev pub later : ℕ → Option ℕ → Option ℕ
later S None = None
later S (Some at) = Some (S + at)

-- where the answer to the first row that names it begins, if a row does
unfoldable pub place_naming : ℕ → ℕ → ℕ → List (List Cell) → Option ℕ
place_naming S p i [] = None
place_naming S p i (cells ∷ rows) = cond (named_in p i cells) (Some 0) (later S (place_naming S p i rows))
