-- What document 02, item 8, says of the queries that a server admits: the list holds each row of the server's short-code set once, and nothing else.
use Rattle.std.specs.Prelude.{◌≡◌, true, List, ℕ, ◌*◌, ◌<◌, length}
use Rattle.parameters.specs.Bounds.{blocks}
use Rattle.short_scheme.specs.Short.{short_admits}
use Rattle.round_scheme.specs.Round.{row}

-- row r stands in the query, at one place
pub record StandsOnce (N K : ℕ) (query r : List ℕ) : Type 0 where
  pub place : ℕ
  pub inside : place < blocks N K
  pub there : row K query place ≡ r
  pub nowhere-else : (i : ℕ) → i < blocks N K → row K query i ≡ r → i ≡ place

pub record EachOnce (N K server : ℕ) (query : List ℕ) : Type 0 where
  pub long : length query ≡ blocks N K * K
  pub no_other : (i : ℕ) → i < blocks N K → short_admits N K server (row K query i) ≡ true
  pub each : (r : List ℕ) → short_admits N K server r ≡ true → StandsOnce N K query r
