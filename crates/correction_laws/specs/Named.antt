-- Whether a query names the symbol of an edit (document 02, item 13: the request names that piece), and what becomes of an answer where it does.
use Rattle.std.specs.Prelude.{ℕ, ◌+◌, ◌*◌, ◌≤◌, ◌<◌, ◌≡◌, Bool, true, List, [], ltb, length, get_or}
use Rattle.lists.specs.Parts.{cut}
use Rattle.lists.specs.Sums.{sum}
use Rattle.symbol.specs.Sum.{Sum}
use Rattle.symbol.specs.Operations.{sum_of}
use Rattle.scheme.specs.Asked.{times_in, named_in}
use Rattle.catalogue.specs.declared.Catalogue.{Catalogue}
use Rattle.codes.specs.Asked.{rows_of}
use Rattle.correction.specs.declared.Edit.{Edit}

-- a row of it does
abbrev pub names : Catalogue → Edit → List ℕ → Bool
names c e query = ltb 0 (sum (times_in e.message e.symbol) (rows_of c query))

-- what became of an answer: the symbol at the place is moved, and all before and behind it stays
pub record MovedAt (by : Sum) (S at : ℕ) (shift answer after : List ℕ) : Type 0 where
  pub there : cut at S after ≡ by.plus (cut at S answer) shift
  pub before : (from size : ℕ) → from + size ≤ at → cut from size after ≡ cut from size answer
  pub behind : (from size : ℕ) → at + S ≤ from → cut from size after ≡ cut from size answer

-- the row of the query that names the symbol, and the answer moved where that row is answered
pub record RowMoved (c : Catalogue) (e : Edit) (query shift answer after : List ℕ) : Type 0 where
  pub row : ℕ
  pub inside : row < length (rows_of c query)
  pub naming : named_in e.message e.symbol (get_or (rows_of c query) row []) ≡ true
  pub at_row : MovedAt (sum_of c.sum) c.symbol (row * c.symbol) shift answer after

-- every byte but the one at a place stays, and the length
pub record OnlyOne (store after : List ℕ) (place value : ℕ) : Type 0 where
  pub long : length after ≡ length store
  pub there : get_or after place 0 ≡ value
  pub elsewhere : (j : ℕ) → (j ≡ place → ⊥) → get_or after j 0 ≡ get_or store j 0
