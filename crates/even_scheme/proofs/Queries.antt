-- Queries: what a key gives at each message's places (`query-numbers`, `query-is`), and the laws that a query has its length
-- (`query-length`) and is admitted (`query-admitted`).
use Prim.Native.Nat.{ℕ, ◌*◌, ◌-◌, ◌^◌, ◌<◌}
use native.Mathlib.Omega.{arith}
use mathlib.Core.Path.{◌≡◌, sym, ap, ◌∙◌}
use mathlib.Core.Bool.{true}
use mathlib.Core.List.{List, map, map-id, zip}
use borrow.Author.Tests.{eq-eqb}
use lib.ListN.{length, length-map}
use Rattle.lists.specs.Arranged.{picked}
use Rattle.lists.specs.Below.{all_below}
use Rattle.lists.specs.Distinct.{distinct}
use Rattle.lists.specs.Pairs.{under}
use Rattle.lists.proofs.Arranged.{picked-distinct}
use Rattle.lists.proofs.Below.{below-all_below}
use Rattle.lists.proofs.Each.{All-get, All-imp, All-map}
use Rattle.lists.proofs.Pairs.{zip-map, zip-firsts, zip-seconds, under-map, under-length, same-under}
use Rattle.lists.proofs.Every.{every_true}
use Rattle.parameters.specs.Bounds.{even_fits}
use Rattle.parameters.specs.Measures.{even_sizes}
use Rattle.parameters.proofs.Bounds.{even-bounds}
use Rattle.scheme.specs.Scheme.{Valid}
use Rattle.symbol.specs.Sum.{Sum}
use Rattle.even_places.specs.Rule.{query_cells, positions}
use Rattle.even_places.proofs.Flat.{cells-inside, places-below, places-distinct, query-length as cells-length}
use Rattle.even_places.proofs.Positions.{same-members, positions-length}
use Rattle.even_scheme.specs.Even.{permutation, entry_at, even_query, numbers_of, even_admits, even_scheme}
use Rattle.even_scheme.proofs.Keys.{key-permutation}

module _ (N K wanted server : ℕ) (wide : 1 < N) (known : wanted < K) (there : server < N) where
  pub cells-labels : map (λ cell. cell.0) (query_cells N K wanted server) ≡ positions N K
  unfolding positions
  cells-labels = same-members N K wanted server wide known there

  -- the numbers that a query names of a message are what the key has at the message's places
  pub query-numbers : (p : ℕ) (key : List ℕ)
      → numbers_of N K p (even_query N K wanted server key) ≡ picked (permutation N K key p) (under p (query_cells N K wanted server))
  unfolding numbers_of even_query picked entry_at under
  query-numbers p key =
      ap (λ l. under p (zip l (even_query N K wanted server key))) (sym cells-labels)
      ∙ ap (under p) (zip-map (λ cell. cell.0) (λ cell. entry_at N K key cell.0 cell.1) (query_cells N K wanted server))
      ∙ under-map (entry_at N K key) p (query_cells N K wanted server)

  whole : (query : List ℕ) → length query ≡ K * N ^ (K - 1) → length (positions N K) ≡ length query
  whole query long = positions-length N K wide (omega arith) ∙ sym long

  -- so a list of a query's length names as many numbers of a message as the message has places
  pub numbers-many : (p : ℕ) (query : List ℕ) → length query ≡ K * N ^ (K - 1)
      → length (under p (query_cells N K wanted server)) ≡ length (numbers_of N K p query)
  unfolding numbers_of under
  numbers-many p query long =
      under-length p (query_cells N K wanted server) (zip (positions N K) query) (cells-labels ∙ sym (zip-firsts (positions N K) query (whole query long)))

  -- and it is the query as soon as it names the numbers that the key has there
  pub query-is : (key query : List ℕ) → length query ≡ K * N ^ (K - 1)
      → ((p : ℕ) → p < K → picked (permutation N K key p) (under p (query_cells N K wanted server)) ≡ numbers_of N K p query)
      → even_query N K wanted server key ≡ query
  unfolding even_query entry_at picked numbers_of under
  query-is key query long numbers =
      same-under (entry_at N K key) (λ p v. v) K (zip (positions N K) query) (All-imp (λ cell h. h.0) (cells-inside N K wanted wide known server there))
      (cells-labels ∙ sym (zip-firsts (positions N K) query (whole query long))) (λ p h. numbers p h ∙ sym (map-id (numbers_of N K p query)))
      ∙ zip-seconds (positions N K) query (whole query long)

  query-size : (key : List ℕ) → length (even_query N K wanted server key) ≡ K * N ^ (K - 1)
  unfolding even_query
  query-size key = length-map (query_cells N K wanted server) (λ cell. entry_at N K key cell.0 cell.1) ∙ cells-length N K wanted wide known server there

module _ (sum : Sum) (N K S : ℕ) (fits : even_fits N K S ≡ true) (wanted server : ℕ) (key : List ℕ)
    (known : wanted < K) (there : server < N) (valid : Valid (even_scheme sum N K S) key) where
  wide : 1 < N
  wide = (even-bounds N K S fits).servers-low

  pub query-length : length ((even_scheme sum N K S).query wanted server key) ≡ (even_scheme sum N K S).sizes.query
  unfolding even_sizes
  query-length = query-size N K wanted server wide known there key

  query-below : all_below (N ^ K) (even_query N K wanted server key) ≡ true
  unfolding even_query entry_at
  query-below =
      below-all_below (N ^ K) (even_query N K wanted server key) (All-get {P = λ v. v < N ^ K} 0 (All-map (λ cell. entry_at N K key cell.0 cell.1)
      (All-imp (λ cell h. (key-permutation sum N K S key valid cell.0 h.0).low cell.1 h.1) (cells-inside N K wanted wide known server there))))

  query-distinct : (p : ℕ) → p < K → distinct (numbers_of N K p (even_query N K wanted server key)) ≡ true
  query-distinct p h =
      ap distinct (query-numbers N K wanted server wide known there p key)
      ∙ picked-distinct (N ^ K) (permutation N K key p) (under p (query_cells N K wanted server)) (key-permutation sum N K S key valid p h)
      (places-below N K wanted wide known server there p h) (places-distinct N K wanted wide known server there p h)

  pub query-admitted : (even_scheme sum N K S).admits server ((even_scheme sum N K S).query wanted server key) ≡ true
  unfolding even_admits
  query-admitted =
      rw (
        eq-eqb (length (even_query N K wanted server key)) (K * N ^ (K - 1)) (query-size N K wanted server wide known there key),
        query-below,
        every_true K (λ p. distinct (numbers_of N K p (even_query N K wanted server key))) query-distinct,
      )
