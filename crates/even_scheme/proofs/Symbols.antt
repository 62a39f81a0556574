-- The symbols that a valid key's numbers name: each lies whole in the store (`symbol_end`, `symbol-symbol`), and in its message at
-- its number (`symbol-part`).
use mathlib.Core.Path.{◌≡◌, sym, ap, ◌∙◌}
use mathlib.Core.Bool.{true}
use mathlib.Core.List.{List}
use Prim.Native.Nat.{ℕ, ◌+◌, ◌*◌, ◌^◌, ◌≤◌, ◌<◌}
use native.Mathlib.Nat.{mul_assoc, add-mul, suc-mul, mul-le-mul_right}
use native.Mathlib.Decide.{dec_lt}
use native.Mathlib.Omega.{arith}
use lib.ListN.{length, get_or, get_or-eq_default, drop}
use Rattle.lists.specs.Below.{Below}
use Rattle.lists.specs.Distinct.{is_permutation}
use Rattle.lists.specs.Parts.{cut}
use Rattle.lists.proofs.Arranged.{Permutation, permutation-facts}
use Rattle.lists.proofs.Below.{below-take, below-drop}
use Rattle.lists.proofs.Cuts.{cut-length, cut-cut}
use Rattle.lists.proofs.Every.{every-at}
use Rattle.symbol.specs.Sum.{Symbol, Sum}
use Rattle.even_scheme.specs.Even.{permutation, entry_at, even_key_good, symbol_of}

-- ---- The key's numbers

pub number-below : (N K : ℕ) (key : List ℕ) (p place : ℕ) → even_key_good N K key ≡ true → p < K → 0 < N ^ K → entry_at N K key p place < N ^ K
unfolding even_key_good entry_at
number-below N K key p place good h some = go (dec_lt place (N ^ K))
  where
    numbers : Permutation (N ^ K) (permutation N K key p)
    numbers = permutation-facts (N ^ K) (permutation N K key p) (every-at K (λ q. is_permutation (N ^ K) (permutation N K key q)) good p h)

    go : Dec (place < N ^ K) → get_or (permutation N K key p) place 0 < N ^ K
    go (yes l) = numbers.low place l
    go (no l) = rw (get_or-eq_default (permutation N K key p) 0 {n = place} (omega (arith, numbers.long))) some

-- ---- The symbols of a store of K messages

module _ (N K S : ℕ) (store : List ℕ) (long : length store ≡ K * (N ^ K * S)) (p i : ℕ) (hp : p < K) (hi : i < N ^ K) where
  -- symbol i's end in message p, and message p's end in the store
  within-message : i * S + S ≤ N ^ K * S
  within-message = omega (arith, suc-mul i S, mul-le-mul_right S hi)

  within-store : p * (N ^ K * S) + N ^ K * S ≤ length store
  within-store = omega (arith, suc-mul p (N ^ K * S), mul-le-mul_right (N ^ K * S) hp)

  offset : (p * N ^ K + i) * S ≡ p * (N ^ K * S) + i * S
  offset = omega (arith, add-mul (p * N ^ K) i S, mul_assoc p (N ^ K) S)

  -- and in the store
  pub symbol_end : (p * N ^ K + i) * S + S ≤ length store
  symbol_end = omega (arith, offset, within-message, within-store)

module _ (sum : Sum) (N K S : ℕ) (store : List ℕ) (long : length store ≡ K * (N ^ K * S)) (p i : ℕ) (hp : p < K) (hi : i < N ^ K) where
  pub symbol-long : length (symbol_of sum N K S store p i) ≡ S
  unfolding symbol_of
  symbol-long = cut-length ((p * N ^ K + i) * S) S store (symbol_end N K S store long p i hp hi)

  pub symbol-symbol : Below 256 store → Symbol S (symbol_of sum N K S store p i)
  unfolding symbol_of
  symbol-symbol bytes =
      record { long = symbol-long; bytes = below-take 256 S (drop ((p * N ^ K + i) * S) store) (below-drop 256 ((p * N ^ K + i) * S) store bytes) }

  -- symbol i of message p is that part of the message
  pub symbol-part : symbol_of sum N K S store p i ≡ cut (i * S) S (cut (p * (N ^ K * S)) (N ^ K * S) store)
  unfolding symbol_of
  symbol-part =
      ap (λ (at : ℕ). cut at S store) (offset N K S store long p i hp hi)
      ∙ sym (cut-cut (i * S) S (p * (N ^ K * S)) (N ^ K * S) store (within-message N K S store long p i hp hi))
