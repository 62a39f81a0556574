-- The parts of the message that the group of a set gives are the scheme's: `group-parts`. The query has, at the wanted message's
-- position in row i, the number of the symbol that the row gives.
use Prim.Native.Nat.{ℕ, ◌+◌, ◌-◌, ◌*◌, ◌^◌, ◌≤◌, ◌<◌}
use native.Mathlib.Omega.{arith}
use mathlib.Core.Path.{◌≡◌, ap, ap₂, ◌∙◌}
use mathlib.Core.Bool.{Bool}
use mathlib.Core.List.{List, [], map}
use lib.ListN.{length, get_or, take, length-map}
use Rattle.lists.specs.Ranges.{range}
use Rattle.lists.specs.Sums.{sum as summed}
use Rattle.lists.proofs.Ranges.{All-range}
use Rattle.lists.proofs.Mapped.{map_at, map-all}
use Rattle.symbol.specs.Sum.{Sum}
use Rattle.scheme.specs.Scheme.{answers_in}
use Rattle.even_places.specs.Rule.{byte_of, ones_in, query_cells, all_sets}
use Rattle.even_places.proofs.WantedCells.{cells_of, WantedCell, wanted-cell}
use Rattle.even_scheme.specs.Even.{entry_at, even_query, wanted_place, recovered_part, even_scheme}
use Rattle.even_recover.specs.declared.Group.{Group}
use Rattle.even_recover.specs.Rows.{server_rows_of, group_part, group_parts, group_of, Named}
use Rattle.even_recover.proofs.Groups.{Reads, WantedSet, messages-is, count-is, cell-is, group-symbol}

-- a buffer begins with the query that a key calls for
pub record HasQuery (N K wanted server : ℕ) (key query : List ℕ) : Type 0 where
  pub room : length (even_query N K wanted server key) ≤ length query
  pub same : (c : ℕ) → c < length (even_query N K wanted server key) → get_or query c 0 ≡ get_or (even_query N K wanted server key) c 0

module _ (sum : Sum) {N K S wanted server : ℕ} {firsts key query : List ℕ} (reads : Reads N K S wanted server firsts)
    (asked : HasQuery N K wanted server key query)
    (j : ℕ) (within : j < length (all_sets K)) (wanted_set : WantedSet K wanted (get_or (all_sets K) j [])) where
  abbrev A : List Bool
  A = get_or (all_sets K) j []

  -- the set's first cell
  abbrev cell : ℕ
  cell = summed (cells_of N) (take j (all_sets K))

  abbrev group : Group
  group = group_of (server_rows_of N K S wanted server) (byte_of A) cell firsts

  -- the wanted message's position in row i
  abbrev position : ℕ → ℕ
  position i = cell + (i * ones_in A + ones_in (take wanted A))

  position-is : (i : ℕ) → group.cell + i * group.messages ≡ position i
  position-is i = omega (arith, cell-is reads wanted_set cell, ap (λ (m : ℕ). i * m) (messages-is reads wanted_set cell))

  at_position : (i : ℕ) → i < (N - 1) ^ (ones_in A - 1)
      → WantedCell N K wanted reads.bounds.servers-low reads.wanted-known server reads.server-known A i (position i)
  at_position i h = wanted-cell N K wanted reads.bounds.servers-low reads.wanted-known server reads.server-known j i within wanted_set.has-wanted h

  position-inside : (i : ℕ) → i < (N - 1) ^ (ones_in A - 1) → position i < length (even_query N K wanted server key)
  unfolding even_query
  position-inside i h = rw (length-map (query_cells N K wanted server) (λ cell. entry_at N K key cell.0 cell.1)) (at_position i h).inside

  number_is : (i : ℕ) → i < (N - 1) ^ (ones_in A - 1)
      → get_or query (group.cell + i * group.messages) 0 ≡ entry_at N K key wanted (wanted_place sum N K S wanted server A i)
  unfolding even_query wanted_place
  number_is i h =
      ap (λ (c : ℕ). get_or query c 0) (position-is i)
      ∙ asked.same (position i) (position-inside i h)
      ∙ map_at (λ cell. entry_at N K key cell.0 cell.1) (0, 0) 0 (query_cells N K wanted server) (position i) (at_position i h).inside
      ∙ rw ((at_position i h).its-message, (at_position i h).its-place)

  pub group-named : Named group query
  group-named = record {
    cells = λ i h.
        let at = position-inside i (rw (count-is reads wanted_set cell) at h) in
        omega (arith, position-is i, asked.room);
  }

  pub group-parts : (answers : List ℕ)
      → group_parts sum (server_rows_of N K S wanted server) group query answers
      ≡ map (recovered_part sum N K S wanted key (answers_in (even_scheme sum N K S) N wanted key answers) server A) (range 0 ((N - 1) ^ (ones_in A - 1)))
  unfolding group_parts group_part recovered_part
  group-parts answers =
      ap (λ (count : ℕ). map (group_part sum (server_rows_of N K S wanted server) group query answers) (range 0 count)) (count-is reads wanted_set cell)
      ∙ map-all (group_part sum (server_rows_of N K S wanted server) group query answers)
      (recovered_part sum N K S wanted key (answers_in (even_scheme sum N K S) N wanted key answers) server A)
      (All-range ((N - 1) ^ (ones_in A - 1)) (λ i h.
      ap₂ (λ (number : ℕ) (symbol : List ℕ). (number * S, symbol)) (number_is i h) (group-symbol reads wanted_set cell sum key answers i h)))
