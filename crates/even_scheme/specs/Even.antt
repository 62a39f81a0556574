-- The even code of Sun and Jafar as a scheme (document 01, 'Even code'; source 003, section IV-B), over any sum of symbols.
-- N servers, K messages, symbols of S bytes. Blocks are counted from 0: the block of a set is one less than its messages.
use Rattle.std.specs.Prelude.{ℕ, ◌+◌, ◌-◌, ◌*◌, ◌/◌, ◌%◌, ◌^◌, Bool, false, cond, ◌&&◌, eqb, length, get_or, set, drop}
use mathlib.Core.List.{List, [], ◌∷◌, ◌++◌, map, flat_map, zip, zip_with}
use Rattle.std.proofs.Math.Option.{Option, none, some}
use Rattle.lists.specs.Parts.{cut}
use Rattle.lists.specs.Assembled.{Part, assemble}
use Rattle.lists.specs.Ranges.{range, every}
use Rattle.lists.specs.Below.{all_below}
use Rattle.lists.specs.Sums.{keep}
use Rattle.lists.specs.Pairs.{under}
use Rattle.lists.specs.Distinct.{distinct, is_permutation}
use Rattle.parameters.specs.Measures.{even_sizes, even_rows}
use Rattle.symbol.specs.Sum.{Sum, zeros, symbol_at, total}
use Rattle.scheme.specs.Scheme.{Scheme}
use Rattle.even_places.specs.Rule.{has, ones_in, members, others, rows, query_cells, all_sets, layout, positions, first_row}

-- ---- The key: K permutations, message 0's first

module _ (N K : ℕ) where
  -- message p's permutation
  unfoldable pub permutation : List ℕ → ℕ → List ℕ
  permutation key p = cut (p * N ^ K) (N ^ K) key

  -- the number of the symbol that a place of message p stands for
  unfoldable pub entry_at : List ℕ → ℕ → ℕ → ℕ
  entry_at key p place = get_or (permutation key p) place 0

  unfoldable pub even_key_good : List ℕ → Bool
  even_key_good key = every K (λ p. is_permutation (N ^ K) (permutation key p))

  -- ---- Queries

  unfoldable pub even_query : ℕ → ℕ → List ℕ → List ℕ
  even_query wanted server key = map (λ cell. entry_at key cell.0 cell.1) (query_cells N K wanted server)

  -- the numbers that a query names of message p
  unfoldable pub numbers_of : ℕ → List ℕ → List ℕ
  numbers_of p query = under p (zip (positions N K) query)

  -- the right length, numbers below N^K, none twice for the same message; the same at every server
  unfoldable pub even_admits : ℕ → List ℕ → Bool
  even_admits server query =
      eqb (length query) (K * N ^ (K - 1)) && (all_below (N ^ K) query && every K (λ p. distinct (numbers_of p query)))

-- ---- Answers

module _ (sum : Sum) (N K S : ℕ) where
  -- symbol i of message p in the store
  unfoldable pub symbol_of : List ℕ → ℕ → ℕ → List ℕ
  symbol_of store p i = symbol_at S store (p * N ^ K + i)

  -- the combined symbol of one row: its set's messages, each with the next number of the query
  unfoldable pub row_answer : List ℕ → List Bool → List ℕ → List ℕ
  row_answer store A numbers = total sum S (zip_with (symbol_of store) (members 0 A) numbers)

  -- the combined symbols of the rows with these sets, one after another
  unfoldable pub row_answers : List ℕ → List (List Bool) → List ℕ → List ℕ
  row_answers store [] query = []
  row_answers store (A ∷ sets) query = row_answer store A query ++ row_answers store sets (drop (ones_in A) query)

  unfoldable pub even_answer : List ℕ → List ℕ → List ℕ
  even_answer store query = row_answers store (layout N K) query

-- ---- Recovery

abbrev place_of : Option ℕ → ℕ
place_of none = 0
place_of (some place) = place

module _ (sum : Sum) (N K S wanted : ℕ) where
  -- the combined symbol of a row in a server's answer
  unfoldable pub answered_row : List (List ℕ) → ℕ → ℕ → List ℕ
  answered_row answers server row = cut (row * S) S (get_or answers server [])

  -- Row i of set A, which has the wanted message, is joined from a row of A without it: row i modulo (N-1)^(b-1) of the other
  -- server whose turn is i / (N-1)^(b-1), where A's block is b, counted from 0. `joined_at` shows that it is that row
  unfoldable pub source_server : ℕ → List Bool → ℕ → ℕ
  source_server server A i = get_or (others N server) (i / (N - 1) ^ (ones_in A - 2)) 0

  unfoldable pub source_row : List Bool → ℕ → ℕ
  source_row A i = first_row (set A wanted false) (layout N K) + i % (N - 1) ^ (ones_in A - 2)

  -- the symbol that row i of set A at a server gives: of the wanted message alone it is the answer; else what the answer to the
  -- row that it was joined from leaves of it
  unfoldable pub recovered_symbol : List (List ℕ) → ℕ → List Bool → ℕ → List ℕ
  recovered_symbol answers server A i =
      cond (eqb (ones_in A) 1)
      (answered_row answers server (first_row A (layout N K) + i))
      (sum.minus (answered_row answers server (first_row A (layout N K) + i)) (answered_row answers (source_server server A i) (source_row A i)))

  -- the place of the wanted message in row i of set A at a server
  unfoldable pub wanted_place : ℕ → List Bool → ℕ → ℕ
  wanted_place server A i = place_of (get_or (get_or (rows N K wanted server) (first_row A (layout N K) + i) []) wanted none)

  -- the part of the message that row i of set A at a server gives: its symbol's offset and bytes
  unfoldable pub recovered_part : List ℕ → List (List ℕ) → ℕ → List Bool → ℕ → Part
  recovered_part key answers server A i = (entry_at N K key wanted (wanted_place server A i) * S, recovered_symbol answers server A i)

  -- those of all rows with the wanted message at a server, and at all servers
  unfoldable pub server_parts : List ℕ → List (List ℕ) → ℕ → List Part
  server_parts key answers server =
      flat_map (λ A. map (recovered_part key answers server A) (range 0 ((N - 1) ^ (ones_in A - 1)))) (keep (has wanted) (all_sets K))

  unfoldable pub recovered_parts : List ℕ → List (List ℕ) → List Part
  recovered_parts key answers = flat_map (server_parts key answers) (range 0 N)

abbrev pub even_scheme : Sum → ℕ → ℕ → ℕ → Scheme
even_scheme sum N K S = record {
  sizes = even_sizes N K S;
  key_good = even_key_good N K;
  query = even_query N K;
  admits = even_admits N K;
  answer_length = λ query. even_rows N K * S;
  answer = even_answer sum N K S;
  recover = λ wanted key answers. assemble (recovered_parts sum N K S wanted key answers) (zeros (N ^ K * S));
}
