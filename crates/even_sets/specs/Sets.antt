-- The sets of an even query's rows as bytes (document 01, 'Even code'; source 003, section IV-B): the set that a byte stands for, the table of
-- the sets in order, and how many rows each has.
use Rattle.std.specs.Prelude.{ℕ, zero, suc, ◌-◌, ◌*◌, ◌/◌, ◌%◌, ◌^◌, ◌≤◌, Bool, eqb}
use mathlib.Core.List.{List, [], ◌∷◌, ◌++◌, map, flat_map}
use Rattle.lists.specs.Parts.{cut}
use Rattle.lists.specs.Ranges.{range}
use Rattle.even_places.specs.Rule.{byte_of, ones_in, all_sets}

-- what the layout needs of the bounds on N and K
pub record LayoutBounds (N K : ℕ) : Type 0 where
  pub servers-low : 2 ≤ N
  pub messages-low : 1 ≤ K
  pub messages-high : K ≤ 8
  pub symbols-high : N ^ K ≤ 256

-- the set of K messages that a byte stands for
unfoldable pub set_in : ℕ → ℕ → List Bool
set_in zero byte = []
set_in (suc K) byte = eqb (byte % 2) 1 ∷ set_in K (byte / 2)

-- the sets of 0, 1, .., 8 messages in the order of a query, each time with the empty one after them: those of K messages stand from 2^K on
unfoldable pub listed_sets : List ℕ
listed_sets = 0 ∷ flat_map (λ K. map byte_of (all_sets K) ++ 0 ∷ []) (range 0 9)

-- the same in rows of eight
unfoldable pub listed_rows : List (List ℕ)
listed_rows = map (λ row. cut (row * 8) 8 listed_sets) (range 0 64)

-- how many rows of a query have set A
unfoldable pub rows_of : ℕ → List Bool → ℕ
rows_of N A = (N - 1) ^ (ones_in A - 1)
