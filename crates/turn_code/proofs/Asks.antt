-- What a query of the turning code asks for is what the short code's row asks for, whichever server it is: `turn-asks`.
use mathlib.Core.Path.{sym}
use Prim.Native.Nat.{ℕ, ◌-◌}
use native.Mathlib.Nat.{mul_assoc}
use Rattle.parameters.specs.Measures.{short_sizes, turn_sizes}
use Rattle.symbol.specs.Sum.{Sum}
use Rattle.scheme.specs.Asks.{Asks}
use Rattle.short_scheme.specs.Asked.{digit_rows}
use Rattle.short_scheme.proofs.Cells.{row-length, rows-once}
use Rattle.short_scheme.proofs.Asks.{row-asked, row_inside}
use Rattle.turn_code.specs.Turn.{turn_scheme}
use Rattle.turn_code.proofs.Queries.{admitted-row}

pub turn-asks : (by : Sum) (N K S : ℕ) → Asks by K S (turn_scheme by N K S) (digit_rows 0)
unfolding turn_sizes short_sizes
turn-asks by N K S = record {
  store-whole = sym (mul_assoc K (N - 1) S);
  answers = row-asked by N S;
  lengths = row-length S 0;
  inside = λ server query a. row_inside N K query (admitted-row N K query a);
  once = λ server query a p i h. rows-once 0 p i query;
}
