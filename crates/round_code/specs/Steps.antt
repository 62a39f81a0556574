-- What the steps are given and what they leave behind, where the rule of round_scheme/specs/Round.antt has no name for it.
use Rattle.std.specs.Prelude.{◌≡◌, cond, ℕ, ◌+◌, ◌-◌, ◌*◌, ◌≤◌, ◌<◌, eqb, length}
use mathlib.Core.List.{List, map, flat_map}
use Rattle.lists.specs.Ranges.{range}
use Rattle.parameters.specs.Bounds.{blocks}
use Rattle.symbol.specs.Sum.{Sum}
use Rattle.short_scheme.specs.Short.{all_zero, key_sum}
use Rattle.short_scheme.specs.Rows.{DigitRow}
use Rattle.short_rows.specs.Steps.{from_places}
use Rattle.round_scheme.specs.Round.{digits, row}

-- numbers of servers and messages within the bounds of the round code
pub record RoundNumbers (N K : ℕ) : Type 0 where
  pub servers-low : 2 ≤ N
  pub servers-high : N ≤ 16
  pub messages-low : 1 ≤ K
  pub messages-high : K ≤ 7
  pub blocks-high : blocks N K ≤ 64

-- A query that an answer can be made to, whichever server admits it: a row of digits for each block
pub record DigitRows (N K : ℕ) (query : List ℕ) : Type 0 where
  pub long : length query ≡ blocks N K * K
  pub rows : (i : ℕ) → i < blocks N K → DigitRow N K (row K query i)

-- the most digits that a short key has
abbrev pub most_digits : ℕ
most_digits = 6

-- Where server m's answer to a row begins in the answer buffer: that of server 0 behind `before` bytes, since its row of zeros took none, and that of
-- any other behind `behind` bytes of its slot
abbrev pub start_of : ℕ → ℕ → ℕ → ℕ → ℕ
start_of slot before behind m = cond (eqb m 0) before (m * slot + behind)

abbrev pub row_starts : ℕ → ℕ → ℕ → List ℕ
row_starts slot before behind = map (start_of slot before behind) (range 0 16)

-- the symbols of a block, from the answers to its row, which begin where `starts` says; `entry` is the key's for the block
unfoldable pub block_from : Sum → ℕ → ℕ → ℕ → ℕ → List ℕ → List ℕ → List ℕ
block_from sum N K S entry starts answers =
    flat_map (from_places sum N S (key_sum N (digits N (K - 1) entry)) (all_zero (digits N (K - 1) entry)) starts answers) (range 1 (N - 1))
