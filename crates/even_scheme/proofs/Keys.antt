-- Keys: a valid key is K permutations (`key-permutation`), and any K permutations are a valid key (`key-of`, `key-of-valid`), which is
-- given back by its permutations (`key-whole`).
use Prim.Native.Nat.{ℕ, ◌*◌, ◌^◌, ◌<◌}
use native.Mathlib.Nat.{zero-add}
use native.Mathlib.Omega.{arith}
use mathlib.Core.Path.{◌≡◌, ap, ◌∙◌}
use mathlib.Core.List.{List, flat_map}
use Rattle.lists.specs.Distinct.{is_permutation}
use Rattle.lists.specs.Ranges.{range}
use Rattle.lists.proofs.Arranged.{Permutation, permutation-facts, facts-permutation}
use Rattle.lists.proofs.Cuts.{flat_map-cut, joined-cuts}
use Rattle.lists.proofs.Joined.{flat_map-all, flat_map-size}
use Rattle.lists.proofs.Every.{every-at, every_true}
use Rattle.lists.proofs.Ranges.{range_length, range_at, All-range}
use Rattle.parameters.specs.Measures.{even_sizes}
use Rattle.scheme.specs.Scheme.{Valid}
use Rattle.symbol.specs.Sum.{Sum}
use Rattle.even_scheme.specs.Even.{permutation, even_key_good, even_scheme}

-- the key with these permutations
unfoldable pub key_of : ℕ → (ℕ → List ℕ) → List ℕ
key_of K permutations = flat_map permutations (range 0 K)

module _ (sum : Sum) (N K S : ℕ) where
  pub key-permutation : (key : List ℕ) → Valid (even_scheme sum N K S) key → (p : ℕ) → p < K → Permutation (N ^ K) (permutation N K key p)
  unfolding even_key_good
  key-permutation key v p h = permutation-facts (N ^ K) (permutation N K key p) (every-at K (λ q. is_permutation (N ^ K) (permutation N K key q)) v.good p h)

  -- a key is its permutations
  pub key-whole : (key : List ℕ) → Valid (even_scheme sum N K S) key → key_of K (permutation N K key) ≡ key
  unfolding key_of permutation even_sizes
  key-whole key v = joined-cuts (N ^ K) K key v.long

  module _ (g : ℕ → List ℕ) (each : (p : ℕ) → p < K → Permutation (N ^ K) (g p)) where
    pub key-of : (p : ℕ) → p < K → permutation N K (key_of K g) p ≡ g p
    unfolding key_of permutation
    key-of p h =
        flat_map-cut g (N ^ K) 0 (All-range K (λ i l. (each i l).long)) p (omega (arith, range_length 0 K)) ∙ ap g (range_at 0 K p 0 h ∙ zero-add p)

    pub key-of-valid : Valid (even_scheme sum N K S) (key_of K g)
    unfolding key_of even_key_good even_sizes
    key-of-valid =
        record {
          long = flat_map-size g (N ^ K) (All-range K (λ i l. (each i l).long)) ∙ ap (λ n. n * N ^ K) (range_length 0 K);
          good = every_true K (λ p. is_permutation (N ^ K) (permutation N K (key_of K g) p))
              (λ p h. ap (is_permutation (N ^ K)) (key-of p h) ∙ facts-permutation (N ^ K) (g p) (each p h));
        }

-- keys with the same permutations are the same
pub key-same : (K : ℕ) (g h : ℕ → List ℕ) → ((p : ℕ) → p < K → g p ≡ h p) → key_of K g ≡ key_of K h
unfolding key_of
key-same K g h e = flat_map-all g h (All-range K e)
