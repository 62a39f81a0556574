-- What a code promises of the rows that a query asks for: the answer is theirs, and an admitted query names only symbols of messages, none of them twice.
use Rattle.std.specs.Prelude.{ℕ, ◌*◌, ◌≤◌, ◌<◌, ◌≡◌, true, List, length}
use Rattle.lists.specs.Sums.{sum, All}
use Rattle.symbol.specs.Sum.{Sum}
use Rattle.scheme.specs.Scheme.{Scheme}
use Rattle.scheme.specs.Asked.{Cell, rows_answer, times_in}

-- a symbol of one of K messages of `symbols` symbols
pub record CellIn (K symbols : ℕ) (cell : Cell) : Type 0 where
  pub message : cell.0 < K
  pub symbol : cell.1 < symbols

pub record Asks (by : Sum) (K S : ℕ) (scheme : Scheme) (asked : List ℕ → List (List Cell)) : Type 0 where
  pub store-whole : scheme.sizes.store ≡ K * scheme.sizes.symbols * S
  pub answers : (store query : List ℕ) → scheme.answer store query ≡ rows_answer by scheme.sizes.symbols S store (asked query)
  pub lengths : (query : List ℕ) → scheme.answer_length query ≡ length (asked query) * S
  pub inside : (server : ℕ) (query : List ℕ) → scheme.admits server query ≡ true → All (All (CellIn K scheme.sizes.symbols)) (asked query)
  pub once : (server : ℕ) (query : List ℕ) → scheme.admits server query ≡ true → (p i : ℕ) → p < K → sum (times_in p i) (asked query) ≤ 1
