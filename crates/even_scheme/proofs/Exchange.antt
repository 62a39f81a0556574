-- The exchange of keys: for two wanted messages, each at a server, the key that shows the one server what a key shows the other (`moved`). It keeps
-- validity (`moved-valid`), is undone by the opposite one (`moved_back`), and shows the same query (`moved-shown`). At one and the same server it is
-- the exchange by which that server learns nothing of the wanted message: `even_exchange`.
use Prim.Native.Nat.{ℕ, ◌^◌, ◌<◌}
use mathlib.Core.Path.{◌≡◌, sym, ap, ◌∙◌}
use mathlib.Core.Bool.{true}
use mathlib.Core.List.{List, map}
use Rattle.lists.specs.Arranged.{arranged, picked, completed}
use Rattle.lists.specs.Pairs.{under}
use Rattle.lists.proofs.Arranged.{Permutation, arranged-permutation, carried-back, picked-permutation}
use Rattle.lists.proofs.Completed.{carried-shown, completed-permutation}
use Rattle.lists.proofs.Pairs.{under-length, same-under}
use Rattle.lists.proofs.Each.{All-imp}
use Rattle.parameters.specs.Bounds.{even_fits}
use Rattle.parameters.proofs.Bounds.{even-bounds}
use Rattle.scheme.specs.Scheme.{Valid}
use Rattle.symbol.specs.Sum.{Sum}
use Rattle.even_places.specs.Rule.{query_cells}
use Rattle.even_places.proofs.Flat.{cells-inside, places-below, places-distinct}
use Rattle.even_scheme.specs.Even.{permutation, entry_at, even_query, even_scheme}
use Rattle.even_scheme.proofs.Keys.{key_of, key-permutation, key-whole, key-of, key-of-valid, key-same}
use Rattle.even_scheme.proofs.Queries.{cells-labels}

module _ (N K : ℕ) where
  -- the places of message p in a server's query for the wanted message, in query order, then those left, ascending
  unfoldable pub order : ℕ → ℕ → ℕ → List ℕ
  order server wanted p = completed (N ^ K) (under p (query_cells N K wanted server))

  -- message p's permutation with, at place i of the order of `to` for `other`, what stands at place i of the order of `from` for `wanted`
  unfoldable pub moved_at : ℕ → ℕ → ℕ → ℕ → List ℕ → ℕ → List ℕ
  moved_at from wanted to other key p = arranged (order to other p) (picked (permutation N K key p) (order from wanted p))

  unfoldable pub moved : ℕ → ℕ → ℕ → ℕ → List ℕ → List ℕ
  moved from wanted to other key = key_of K (moved_at from wanted to other key)

  abbrev pub even_exchange : ℕ → ℕ → ℕ → List ℕ → List ℕ
  even_exchange server wanted other = moved server wanted server other

  pub order-permutation : (server : ℕ) → 1 < N → server < N → (wanted p : ℕ) → wanted < K → p < K → Permutation (N ^ K) (order server wanted p)
  unfolding order
  order-permutation server wide there wanted p known h =
      completed-permutation (N ^ K) (under p (query_cells N K wanted server))
      (places-below N K wanted wide known server there p h) (places-distinct N K wanted wide known server there p h)

module _ (sum : Sum) (N K S : ℕ) (fits : even_fits N K S ≡ true) (from wanted to other : ℕ) (key : List ℕ)
    (there : from < N) (known : wanted < K) (there' : to < N) (known' : other < K) (valid : Valid (even_scheme sum N K S) key) where
  wide : 1 < N
  wide = (even-bounds N K S fits).servers-low

  places : (p : ℕ) → p < K → Permutation (N ^ K) (order N K from wanted p)
  places p h = order-permutation N K from wide there wanted p known h

  places' : (p : ℕ) → p < K → Permutation (N ^ K) (order N K to other p)
  places' p h = order-permutation N K to wide there' other p known' h

  moved-permutation : (p : ℕ) → p < K → Permutation (N ^ K) (moved_at N K from wanted to other key p)
  unfolding moved_at
  moved-permutation p h =
      arranged-permutation (N ^ K) (order N K to other p) (picked (permutation N K key p) (order N K from wanted p)) (places' p h)
      (picked-permutation (N ^ K) (permutation N K key p) (order N K from wanted p) (key-permutation sum N K S key valid p h) (places p h))

  pub moved-valid : Valid (even_scheme sum N K S) (moved N K from wanted to other key)
  unfolding moved
  moved-valid = key-of-valid sum N K S (moved_at N K from wanted to other key) moved-permutation

  moved_at_lem : (p : ℕ) → p < K → permutation N K (moved N K from wanted to other key) p ≡ moved_at N K from wanted to other key p
  unfolding moved
  moved_at_lem p h = key-of sum N K S (moved_at N K from wanted to other key) moved-permutation p h

  back : (p : ℕ) → p < K → moved_at N K to other from wanted (moved N K from wanted to other key) p ≡ permutation N K key p
  unfolding moved_at
  back p h =
      ap (λ l. arranged (order N K from wanted p) (picked l (order N K to other p))) (moved_at_lem p h)
      ∙ carried-back (N ^ K) (order N K to other p) (order N K from wanted p) (permutation N K key p) (places' p h) (places p h)
      (key-permutation sum N K S key valid p h).long

  same-labels : map (λ cell. cell.0) (query_cells N K other to) ≡ map (λ cell. cell.0) (query_cells N K wanted from)
  same-labels = cells-labels N K other to wide known' there' ∙ sym (cells-labels N K wanted from wide known there)

  -- what the moved key has at message p's places for `other` is what the key has at those for `wanted`
  shown : (p : ℕ) → p < K
      → map (entry_at N K (moved N K from wanted to other key) p) (under p (query_cells N K other to))
      ≡ map (entry_at N K key p) (under p (query_cells N K wanted from))
  unfolding entry_at moved_at order picked
  shown p h =
      ap (λ l. picked l (under p (query_cells N K other to))) (moved_at_lem p h)
      ∙ carried-shown (N ^ K) (under p (query_cells N K other to)) (under p (query_cells N K wanted from)) (places' p h)
      (under-length p (query_cells N K other to) (query_cells N K wanted from) same-labels) (permutation N K key p)

  pub moved_back : moved N K to other from wanted (moved N K from wanted to other key) ≡ key
  unfolding moved
  moved_back =
      key-same K (moved_at N K to other from wanted (moved N K from wanted to other key)) (permutation N K key) back ∙ key-whole sum N K S key valid

  pub moved-shown : (even_scheme sum N K S).query other to (moved N K from wanted to other key) ≡ (even_scheme sum N K S).query wanted from key
  unfolding even_query
  moved-shown =
      same-under (entry_at N K (moved N K from wanted to other key)) (entry_at N K key) K (query_cells N K wanted from)
      (All-imp (λ cell h. h.0) (cells-inside N K other wide known' to there')) same-labels shown
