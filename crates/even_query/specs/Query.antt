-- What the steps of an even query ask for and write (document 01, 'Even code'): N servers, K messages, wanted message k. Which places
-- they write is told in even_ranks/specs/Walk.antt.
use Rattle.std.specs.Prelude.{◌≡◌, ℕ, ◌+◌, ◌*◌, ◌≤◌, ◌<◌, length, get_or}
use mathlib.Core.List.{List, zip_with}
use Rattle.even_sets.specs.Sets.{LayoutBounds}
use Rattle.even_ranks.specs.Counts.{taken_table}
use Rattle.even_ranks.specs.declared.Origin.{Origin}

-- a query for a message that is there, to a server that is there
pub record Asks (N K k server : ℕ) : Type 0 where
  pub bounds : LayoutBounds N K
  pub servers-high : N ≤ 16
  pub message : k < K
  pub server-low : server < N

-- the tables that places follow from
pub record Tables (N k : ℕ) (totals taken : List ℕ) : Type 0 where
  pub long : length totals ≡ 128
  pub filled : taken ≡ taken_table N k totals

-- an origin whose blocks the tables have
pub record OriginWithin (o : Origin) : Type 0 where
  pub block-low : o.block < 8
  pub source-low : o.source < 8
  pub some : 1 ≤ o.rows

-- messages and places that a key has entries for, where each message has so many symbols
pub record Keyed (symbols : ℕ) (key messages places : List ℕ) : Type 0 where
  pub few : symbols ≤ 256
  pub even : length messages ≡ length places
  pub inside : (i : ℕ) → i < length places → get_or messages i 0 * symbols + get_or places i 0 < length key

-- those entries
unfoldable pub entries : ℕ → List ℕ → List ℕ → List ℕ → List ℕ
entries symbols key messages places = zip_with (λ p place. get_or key (p * symbols + place) 0) messages places
