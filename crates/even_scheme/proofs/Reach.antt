-- Nothing that is admitted is out of reach: for each server, wanted message and admitted query, a valid key gives the query (`reach`).
-- The key is the query's numbers, completed to permutations.
use Prim.Native.Nat.{ℕ, ◌*◌, ◌-◌, ◌^◌, ◌<◌}
use mathlib.Core.Path.{◌≡◌, ap, ◌∙◌}
use mathlib.Core.Bool.{true, ◌&&◌}
use mathlib.Core.List.{List}
use borrow.Author.Tests.{eqb-true}
use lib.Dec.{eqb}
use lib.ListN.{length}
use Rattle.lists.specs.Arranged.{arranged, picked, completed}
use Rattle.lists.specs.Below.{all_below, Below}
use Rattle.lists.specs.Distinct.{distinct}
use Rattle.lists.specs.Pairs.{under}
use Rattle.lists.specs.Ranges.{every}
use Rattle.lists.proofs.Arranged.{Permutation, arranged-permutation}
use Rattle.lists.proofs.Completed.{completed-shown, completed-permutation}
use Rattle.lists.proofs.Below.{all_below-below}
use Rattle.lists.proofs.Both.{both_true}
use Rattle.lists.proofs.Pairs.{under-below}
use Rattle.lists.proofs.Every.{every-at}
use Rattle.parameters.specs.Bounds.{even_fits}
use Rattle.parameters.proofs.Bounds.{even-bounds}
use Rattle.scheme.specs.Reach.{Gives}
use Rattle.symbol.specs.Sum.{Sum}
use Rattle.even_places.specs.Rule.{query_cells, positions}
use Rattle.even_scheme.specs.Even.{permutation, numbers_of, even_admits, even_scheme}
use Rattle.even_scheme.proofs.Exchange.{order, order-permutation}
use Rattle.even_scheme.proofs.Keys.{key_of, key-of, key-of-valid}
use Rattle.even_scheme.proofs.Queries.{query-is, numbers-many}

module _ (N K : ℕ) where
  -- the numbers that a query names of message p, then those left, ascending
  unfoldable pub named : List ℕ → ℕ → List ℕ
  named query p = completed (N ^ K) (numbers_of N K p query)

  -- message p's permutation with the numbers that the query names of it at its places in the query for `wanted`
  unfoldable pub reached_at : ℕ → ℕ → List ℕ → ℕ → List ℕ
  reached_at server wanted query p = arranged (order N K server wanted p) (named query p)

  unfoldable pub reached : ℕ → ℕ → List ℕ → List ℕ
  reached server wanted query = key_of K (reached_at server wanted query)

  -- what an admitted query is
  pub record Admitted (query : List ℕ) : Type 0 where
    pub long : length query ≡ K * N ^ (K - 1)
    pub low : Below (N ^ K) query
    pub apart : (p : ℕ) → p < K → distinct (numbers_of N K p query) ≡ true

  pub admitted : (server : ℕ) (query : List ℕ) → even_admits N K server query ≡ true → Admitted query
  unfolding even_admits
  admitted server query e =
      let a = both_true (eqb (length query) (K * N ^ (K - 1))) (all_below (N ^ K) query && every K (λ p. distinct (numbers_of N K p query))) e in
      let b = both_true (all_below (N ^ K) query) (every K (λ p. distinct (numbers_of N K p query))) a.1 in
      record {
        long = eqb-true (length query) (K * N ^ (K - 1)) a.0;
        low = all_below-below (N ^ K) query b.0;
        apart = every-at K (λ p. distinct (numbers_of N K p query)) b.1;
      }

  pub named-permutation : (query : List ℕ) → Admitted query → (p : ℕ) → p < K → Permutation (N ^ K) (named query p)
  unfolding named numbers_of under
  named-permutation query a p h = completed-permutation (N ^ K) (numbers_of N K p query) (under-below (N ^ K) p (positions N K) query a.low) (a.apart p h)

module _ (sum : Sum) (N K S : ℕ) (fits : even_fits N K S ≡ true) (server wanted : ℕ) (query : List ℕ)
    (there : server < N) (known : wanted < K) (admits : (even_scheme sum N K S).admits server query ≡ true) where
  wide : 1 < N
  wide = (even-bounds N K S fits).servers-low

  reached-permutation : (p : ℕ) → p < K → Permutation (N ^ K) (reached_at N K server wanted query p)
  unfolding reached_at
  reached-permutation p h =
      arranged-permutation (N ^ K) (order N K server wanted p) (named N K query p) (order-permutation N K server wide there wanted p known h)
      (named-permutation N K query (admitted N K server query admits) p h)

  reached-shown : (p : ℕ) → p < K
      → picked (permutation N K (reached N K server wanted query) p) (under p (query_cells N K wanted server)) ≡ numbers_of N K p query
  unfolding reached reached_at named order
  reached-shown p h =
      ap (λ l. picked l (under p (query_cells N K wanted server))) (key-of sum N K S (reached_at N K server wanted query) reached-permutation p h)
      ∙ completed-shown (N ^ K) (under p (query_cells N K wanted server)) (numbers_of N K p query)
      (order-permutation N K server wide there wanted p known h)
      (numbers-many N K wanted server wide known there p query (admitted N K server query admits).long)

  pub reach : Gives (even_scheme sum N K S) wanted server query (reached N K server wanted query)
  unfolding reached
  reach =
      record {
        valid = key-of-valid sum N K S (reached_at N K server wanted query) reached-permutation;
        shown = query-is N K wanted server wide known there (reached N K server wanted query) query (admitted N K server query admits).long reached-shown;
      }
