-- Any two admitted queries are given by equally many valid keys: renaming the numbers of a key takes those that give one to those that
-- give the other (`renamed-gives`), and the opposite renaming takes them back (`renamed-once`).
use Prim.Native.Nat.{ℕ, ◌^◌, ◌<◌}
use mathlib.Core.Path.{◌≡◌, sym, ap, ◌∙◌, subst}
use mathlib.Core.Bool.{true}
use mathlib.Core.List.{List}
use lib.ListN.{length, get_or}
use Rattle.lists.specs.Arranged.{arranged, picked}
use Rattle.lists.specs.Pairs.{under}
use Rattle.lists.proofs.Arranged.{Permutation, arranged-permutation, picked-permutation, picked-picked, renamed-back, permutation-tests}
use Rattle.lists.proofs.Completed.{completed-shown}
use Rattle.parameters.specs.Bounds.{even_fits}
use Rattle.parameters.proofs.Bounds.{even-bounds}
use Rattle.symbol.specs.Sum.{Sum}
use Rattle.scheme.specs.Reach.{Gives}
use Rattle.even_places.specs.Rule.{query_cells}
use Rattle.even_places.proofs.Flat.{places-below}
use Rattle.even_scheme.specs.Even.{permutation, numbers_of, even_scheme}
use Rattle.even_scheme.proofs.Keys.{key_of, key-permutation, key-whole, key-of, key-of-valid, key-same}
use Rattle.even_scheme.proofs.Queries.{query-numbers, query-is, numbers-many}
use Rattle.even_scheme.proofs.Reach.{named, named-permutation, admitted}

module _ (N K : ℕ) where
  -- message p's permutation with its numbers renamed as one query's become another's
  unfoldable pub renamed_at : List ℕ → List ℕ → List ℕ → ℕ → List ℕ
  renamed_at query other key p = picked (arranged (named N K query p) (named N K other p)) (permutation N K key p)

  unfoldable pub renamed : List ℕ → List ℕ → List ℕ → List ℕ
  renamed query other key = key_of K (renamed_at query other key)

module _ (sum : Sum) (N K S : ℕ) (fits : even_fits N K S ≡ true) (server wanted : ℕ) (query other key : List ℕ)
    (there : server < N) (known : wanted < K)
    (admits : (even_scheme sum N K S).admits server query ≡ true) (admits' : (even_scheme sum N K S).admits server other ≡ true)
    (gives : Gives (even_scheme sum N K S) wanted server query key) where
  wide : 1 < N
  wide = (even-bounds N K S fits).servers-low

  names : (p : ℕ) → p < K → Permutation (N ^ K) (named N K query p)
  names = named-permutation N K query (admitted N K server query admits)

  names' : (p : ℕ) → p < K → Permutation (N ^ K) (named N K other p)
  names' = named-permutation N K other (admitted N K server other admits')

  renamed-permutation : (p : ℕ) → p < K → Permutation (N ^ K) (renamed_at N K query other key p)
  unfolding renamed_at
  renamed-permutation p h =
      picked-permutation (N ^ K) (arranged (named N K query p) (named N K other p)) (permutation N K key p)
      (arranged-permutation (N ^ K) (named N K query p) (named N K other p) (names p h) (names' p h)) (key-permutation sum N K S key gives.valid p h)

  renamed-at : (p : ℕ) → p < K → permutation N K (renamed N K query other key) p ≡ renamed_at N K query other key p
  unfolding renamed
  renamed-at p h = key-of sum N K S (renamed_at N K query other key) renamed-permutation p h

  renamed-shown : (p : ℕ) → p < K
      → picked (permutation N K (renamed N K query other key) p) (under p (query_cells N K wanted server)) ≡ numbers_of N K p other
  unfolding renamed_at named
  renamed-shown p h =
      let places = under p (query_cells N K wanted server) in
      let P = permutation N K key p in
      let rename = arranged (named N K query p) (named N K other p) in
      let long : length P ≡ N ^ K = (key-permutation sum N K S key gives.valid p h).long in
      let many : length (numbers_of N K p query) ≡ length (numbers_of N K p other) =
      sym (numbers-many N K wanted server wide known there p query (admitted N K server query admits).long)
      ∙ numbers-many N K wanted server wide known there p other (admitted N K server other admits').long in
      ap (λ l. picked l places) (renamed-at p h)
      ∙ picked-picked rename P places
      (λ i l. subst (λ (n : ℕ). get_or places i 0 < n) (sym long) (places-below N K wanted wide known server there p h i l))
      ∙ ap (picked rename) (sym (query-numbers N K wanted server wide known there p key) ∙ ap (numbers_of N K p) gives.shown)
      ∙ completed-shown (N ^ K) (numbers_of N K p query) (numbers_of N K p other) (names p h) many

  -- renaming takes the keys that give a query to those that give another
  pub renamed-gives : Gives (even_scheme sum N K S) wanted server other (renamed N K query other key)
  unfolding renamed
  renamed-gives =
      record {
        valid = key-of-valid sum N K S (renamed_at N K query other key) renamed-permutation;
        shown = query-is N K wanted server wide known there (renamed N K query other key) other (admitted N K server other admits').long renamed-shown;
      }

  renamed-undone : (p : ℕ) → p < K → renamed_at N K other query (renamed N K query other key) p ≡ permutation N K key p
  unfolding renamed_at
  renamed-undone p h =
      ap (picked (arranged (named N K other p) (named N K query p))) (renamed-at p h)
      ∙ renamed-back (N ^ K) (named N K query p) (named N K other p) (permutation N K key p) (names p h) (names' p h)
      (permutation-tests (N ^ K) (permutation N K key p) (key-permutation sum N K S key gives.valid p h)).0

  -- and the opposite renaming takes them back: so there are equally many of either
  pub renamed-once : renamed N K other query (renamed N K query other key) ≡ key
  unfolding renamed
  renamed-once =
      key-same K (renamed_at N K other query (renamed N K query other key)) (permutation N K key) renamed-undone ∙ key-whole sum N K S key gives.valid
