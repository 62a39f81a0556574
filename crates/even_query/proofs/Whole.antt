-- The whole query: the places that are written are the rule's (`places-are`), and the key's entries for them are the query of the
-- scheme (`entries-are`).
use Prim.Native.Nat.{ℕ, suc, ◌-◌, ◌*◌, ◌^◌, ◌≤◌, ◌<◌}
use native.Mathlib.Omega.{arith}
use mathlib.Core.Path.{◌≡◌, refl, sym, ap₂, ◌∙◌}
use mathlib.Core.List.{List, [], ◌∷◌, map, zip_with}
use lib.Arith.{digits_lt}
use lib.ListN.{length, get_or, take, replicate, length-map, get_or-map}
use Rattle.lists.specs.Below.{Below}
use Rattle.lists.specs.Padded.{padded}
use Rattle.lists.proofs.Cuts.{cut_at, front-is}
use Rattle.even_places.specs.Rule.{query_cells, all_sets, positions}
use Rattle.even_places.proofs.Flat.{inside, query-length}
use Rattle.even_places.proofs.Positions.{same-members, positions-length}
use Rattle.even_scheme.specs.Even.{permutation, entry_at, even_query}
use Rattle.even_layout.proofs.Tables.{positions-room}
use Rattle.even_ranks.specs.Counts.{no_counts, totals_of}
use Rattle.even_ranks.specs.Walk.{sets_places, walked}
use Rattle.even_ranks.proofs.Walk.{walked-is, walked-below}
use Rattle.even_query.specs.Query.{Asks, Keyed, entries}

-- the entries for cells are the numbers that they stand for
entries-cells : (N K : ℕ) (key : List ℕ) (cells : List (ℕ × ℕ)) → ((i : ℕ) → i < length cells → (get_or cells i (0, 0)).1 < N ^ K)
    → entries (N ^ K) key (map (λ cell. cell.0) cells) (map (λ cell. cell.1) cells) ≡ map (λ cell. entry_at N K key cell.0 cell.1) cells
unfolding entries zip_with entry_at permutation
entries-cells N K key [] h = refl
entries-cells N K key (cell ∷ cells) h =
    ap₂ (λ (x : ℕ) (l : List ℕ). x ∷ l) (sym (cut_at (cell.0 * N ^ K) (N ^ K) cell.1 key (h 0 (omega arith))))
    (entries-cells N K key cells (λ i l. h (suc i) (omega arith)))

module _ (N K k server : ℕ) (asks : Asks N K k server) where
  wide : 1 < N
  wide = asks.bounds.servers-low

  pub places-are : (totals : List ℕ) → totals ≡ totals_of K k
      → sets_places N k server totals no_counts (all_sets K) ≡ map (λ cell. cell.1) (query_cells N K k server)
  unfolding walked
  places-are totals e = rw e (walked-is N K k server wide asks.message asks.bounds.messages-high asks.server-low)

  pub places-below : Below 256 (map (λ cell. cell.1) (query_cells N K k server))
  places-below =
      rw (← walked-is N K k server wide asks.message asks.bounds.messages-high asks.server-low)
      (λ i h. omega (arith, walked-below N K k server wide asks.message asks.bounds.messages-high asks.server-low i h, asks.bounds.symbols-high))

  pub places-length : length (map (λ cell. cell.1) (query_cells N K k server)) ≡ K * N ^ (K - 1)
  places-length = length-map (query_cells N K k server) (λ cell. cell.1) ∙ query-length N K k wide asks.message server asks.server-low

  -- a query has at most 1,024 bytes
  pub query-room : K * N ^ (K - 1) ≤ 1024
  query-room = omega (arith, positions-length N K wide asks.bounds.messages-low, positions-room N K asks.bounds)

  messages-are : positions N K ≡ map (λ cell. cell.0) (query_cells N K k server)
  unfolding positions
  messages-are = sym (same-members N K k server wide asks.message asks.server-low)

  pub messages-length : length (positions N K) ≡ K * N ^ (K - 1)
  messages-length = positions-length N K wide asks.bounds.messages-low

  -- the fronts of the tables of messages and of places, as long as a query
  module _ {table : List ℕ} {many : ℕ} (whole : many ≡ K * N ^ (K - 1)) where
    pub messages-front : table ≡ padded 1024 (positions N K) → take many table ≡ positions N K
    messages-front e =
        front-is many table (positions N K) (replicate (1024 - length (positions N K)) 0) e (messages-length ∙ sym whole)

    pub places-front : table ≡ padded 1024 (map (λ cell. cell.1) (query_cells N K k server)) → take many table ≡ map (λ cell. cell.1) (query_cells N K k server)
    places-front e =
        let places = map (λ cell. cell.1) (query_cells N K k server) in
        front-is many table places (replicate (1024 - length places) 0) e (places-length ∙ sym whole)

  pub keyed : (key : List ℕ) → length key ≡ K * N ^ K → Keyed (N ^ K) key (positions N K) (map (λ cell. cell.1) (query_cells N K k server))
  keyed key e = record {
    few = asks.bounds.symbols-high;
    even = messages-length ∙ sym places-length;
    inside = λ i h.
        let cells = query_cells N K k server in
        let at : i < length cells = omega (arith, length-map cells (λ cell. cell.1)) in
        let in_bounds = inside N K k wide asks.message server i asks.server-low at in
        rw (messages-are, get_or-map (λ cell. cell.0) cells i (0, 0), get_or-map (λ cell. cell.1) cells i (0, 0), e)
        (digits_lt in_bounds.0 in_bounds.1);
  }

  pub entries-are : (key : List ℕ) → entries (N ^ K) key (positions N K) (map (λ cell. cell.1) (query_cells N K k server)) ≡ even_query N K k server key
  unfolding even_query
  entries-are key =
      rw messages-are (entries-cells N K key (query_cells N K k server) (λ i h. (inside N K k wide asks.message server i asks.server-low h).1))
