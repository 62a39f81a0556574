-- Recovery block by block from the answer buffer: a row's answers end inside the slots (`before-inside`), server 0's each behind those before (`first_next`),
-- the blocks are as long as they have to be
-- (`blocks-long`), and together they are what the rule recovers (`blocks-recovered`).
use mathlib.Core.Path.{◌≡◌, sym, ap, ◌∙◌}
use mathlib.Core.Bool.{true, cond}
use mathlib.Core.List.{List, flat_map}
use Prim.Native.Nat.{ℕ, ◌+◌, ◌-◌, ◌*◌, ◌≤◌, ◌<◌}
use native.Mathlib.Nat.{mul-le-mul}
use native.Mathlib.Omega.{arith}
use lib.Dec.{eqb}
use lib.ListN.{length, get_or}
use Rattle.lists.specs.Below.{Below}
use Rattle.lists.specs.Ranges.{range}
use Rattle.lists.proofs.Arranged.{Permutation, permutation-facts}
use Rattle.lists.proofs.Cuts.{slot-end}
use Rattle.lists.proofs.Joined.{flat_map-size, flat_map-all}
use Rattle.lists.proofs.Ranges.{range_length, All-range}
use Rattle.parameters.specs.Bounds.{blocks, round_fits}
use Rattle.parameters.specs.Measures.{round_sizes}
use Rattle.parameters.proofs.Bounds.{RoundBounds, round-bounds}
use Rattle.symbol.specs.Sum.{Sum}
use Rattle.symbol.specs.Group.{AbelianGroup}
use Rattle.scheme.specs.Scheme.{Valid, recover_in}
use Rattle.short_rows.specs.Steps.{Placed}
use Rattle.round_scheme.specs.Round.{round_query, length_before, round_recover, round_scheme}
use Rattle.round_scheme.proofs.Lengths.{before-next, before-short, first-row}
use Rattle.round_code.specs.Steps.{row_starts, block_from}
use Rattle.round_code.proofs.Fits.{fits-numbers, slot_small}
use Rattle.round_code.proofs.Starts.{starts-placed, block-long, block-slots}

-- how long server 0's answers to the rows before row i are
abbrev pub first_before : ℕ → ℕ → ℕ → ℕ → List ℕ → ℕ → ℕ
first_before N K S wanted key i = length_before K S (round_query N K wanted 0 key) i

-- the symbols of block i
abbrev pub block_at : Sum → ℕ → ℕ → ℕ → ℕ → List ℕ → List ℕ → ℕ → List ℕ
block_at sum N K S wanted key answers i =
    block_from sum N K S (get_or key i 0) (row_starts (blocks N K * S) (first_before N K S wanted key i) (i * S)) answers

-- what recovery is given
pub record Given (sum : Sum) (N K S wanted : ℕ) (key answers : List ℕ) : Type 0 where
  pub fits : round_fits N K S ≡ true
  pub known : wanted < K
  pub valid : Valid (round_scheme sum N K S) key
  pub room : N * (round_sizes N K S).slot ≤ length answers

module _ {sum : Sum} {N K S wanted : ℕ} {key answers : List ℕ} (given : Given sum N K S wanted key answers) where
  pub bounds : RoundBounds N K S
  bounds = round-bounds N K S given.fits

  pub all : Permutation (blocks N K) key
  all = permutation-facts (blocks N K) key given.valid.good

  pub wide : 0 < N
  wide = omega (arith, bounds.servers-low)

  -- the bytes of some blocks' symbols in a slot, and of a block in the message
  pub symbols-low : (i : ℕ) → i ≤ blocks N K → i * S ≤ 64 * 4096
  symbols-low i = slot_small N K (fits-numbers N K S given.fits) S i bounds.symbol_high

  pub block-low : (N - 1) * S ≤ 15 * 4096
  block-low = let few : N - 1 ≤ 15 = omega (arith, bounds.servers-high) in mul-le-mul few bounds.symbol_high

  pub before-inside : (i : ℕ) → i < blocks N K → (first_before N K S wanted key i + S ≤ blocks N K * S) × (i * S + S ≤ blocks N K * S)
  before-inside i h =
      let ends = slot-end i (blocks N K) S h in (omega (arith, before-short K S (round_query N K wanted 0 key) i), ends)

  placed : (i : ℕ) → i < blocks N K → Placed N S (row_starts (blocks N K * S) (first_before N K S wanted key i) (i * S)) answers
  unfolding round_sizes
  placed i h =
      starts-placed N S (blocks N K * S) (first_before N K S wanted key i) (i * S) answers bounds.servers-high bounds.symbol_low
      (omega (arith, symbols-low (blocks N K) (omega arith))) (before-inside i h).0 (before-inside i h).1 given.room

  -- with one row more
  pub first_next : (i : ℕ) → i < blocks N K → first_before N K S wanted key i + cond (eqb (get_or key i 0) 0) 0 S ≡ first_before N K S wanted key (i + 1)
  first_next i h =
      ap (λ (r : ℕ). first_before N K S wanted key i + r) (sym (first-row N K S wanted wide given.known key all i h))
      ∙ sym (before-next K S (round_query N K wanted 0 key) i)

  module _ (group : AbelianGroup sum S) where
    pub blocks-long : (i : ℕ) → i ≤ blocks N K → length (flat_map (block_at sum N K S wanted key answers) (range 0 i)) ≡ i * ((N - 1) * S)
    blocks-long i h =
        flat_map-size (block_at sum N K S wanted key answers) ((N - 1) * S)
        (All-range i (λ j l.
        block-long sum N K S (get_or key j 0) (row_starts (blocks N K * S) (first_before N K S wanted key j) (j * S)) answers group wide (placed j (omega arith))))
        ∙ ap (λ (m : ℕ). m * ((N - 1) * S)) (range_length 0 i)

    pub blocks-recovered : Below 256 answers
        → flat_map (block_at sum N K S wanted key answers) (range 0 (blocks N K)) ≡ recover_in (round_scheme sum N K S) N wanted key answers
    unfolding round_recover
    blocks-recovered bytes =
        flat_map-all (block_at sum N K S wanted key answers) _
        (All-range (blocks N K) (λ i h. sym (block-slots sum N K S group wide wanted given.known key all answers bytes i h (placed i h))))
