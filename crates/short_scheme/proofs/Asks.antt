-- What a query of the short code asks for: one row, none for the row of zeros (`short-asks`). Of a row that any code admits: `row-asked`, `row_inside`.
use mathlib.Core.Path.{◌≡◌, sym}
use mathlib.Core.List.{List}
use Prim.Native.Nat.{ℕ, ◌-◌}
use native.Mathlib.Nat.{mul_assoc}
use native.Mathlib.Omega.{arith}
use Rattle.lists.specs.Sums.{All}
use Rattle.lists.proofs.Below.{all_below-below}
use Rattle.parameters.specs.Measures.{short_sizes}
use Rattle.symbol.specs.Sum.{Sum}
use Rattle.short_scheme.specs.Short.{short_answer, short_scheme}
use Rattle.short_scheme.specs.Rows.{DigitRow}
use Rattle.short_scheme.proofs.Queries.{admits-row}
use Rattle.scheme.specs.Asked.{rows_answer}
use Rattle.short_scheme.specs.Asked.{digit_rows}
use Rattle.scheme.specs.Asks.{CellIn, Asks}
use Rattle.short_scheme.proofs.Cells.{row-answered, row-length, rows_inside, rows-once}

pub row-asked : (by : Sum) (N S : ℕ) (store query : List ℕ) → short_answer by N S store query ≡ rows_answer by (N - 1) S store (digit_rows 0 query)
unfolding short_answer
row-asked by N S store query = row-answered by (N - 1) S store 0 query

pub row_inside : (N K : ℕ) (query : List ℕ) → DigitRow N K query → All (All (CellIn K (N - 1))) (digit_rows 0 query)
row_inside N K query row = rows_inside N K (N - 1) 0 query (omega (arith, row.long)) (omega arith) (all_below-below N query row.digits)

pub short-asks : (by : Sum) (N K S : ℕ) → Asks by K S (short_scheme by N K S) (digit_rows 0)
unfolding short_sizes
short-asks by N K S = record {
  store-whole = sym (mul_assoc K (N - 1) S);
  answers = row-asked by N S;
  lengths = row-length S 0;
  inside = λ server query a. row_inside N K query (admits-row N K server query a);
  once = λ server query a p i h. rows-once 0 p i query;
}
