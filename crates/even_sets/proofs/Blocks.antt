-- How many sets there are (`all-length`), and the table of the sets of each number of messages: its part from 2^K on is the sets of K
-- messages (`listed-entry`).
use mathlib.Core.Path.{◌≡◌, refl, sym, ap, ◌∙◌}
use mathlib.Core.List.{List, map, flat_map}
use Prim.Native.Nat.{ℕ, zero, suc, ◌+◌, ◌-◌, ◌*◌, ◌/◌, ◌%◌, ◌^◌, ◌≤◌, ◌<◌}
use native.Mathlib.Nat.{mul-one, pow-zero, pow-suc, pow-le-pow_right, div-add-mod', mod-lt}
use native.Mathlib.Omega.{arith}
use lib.ListN.{length, get_or, drop, length-map}
use lib.Seq.{get_or-take, get_or-drop}
use Rattle.lists.specs.Parts.{cut}
use Rattle.lists.specs.Ranges.{range}
use Rattle.lists.specs.Sums.{bit, sum}
use Rattle.lists.proofs.Mapped.{mapped_at}
use Rattle.lists.proofs.Sums.{sum_one, sum-ext, sum-flat_map}
use Rattle.even_places.specs.Rule.{byte_of, sets, all_sets, row_count}
use Rattle.even_places.proofs.Counts.{row-count-product}
use Rattle.even_sets.specs.Sets.{listed_sets, listed_rows}

one-pow : (b : ℕ) → 1 ^ b ≡ 1
one-pow zero = pow-zero 1
one-pow (suc b) = pow-suc 1 b ∙ mul-one (1 ^ b) ∙ one-pow b

-- all sets but the empty one
pub all-length : (K : ℕ) → length (all_sets K) + 1 ≡ 2 ^ K
unfolding all_sets row_count
all-length K =
    let blocks = range 0 K in
    let each : sum (λ b. length (sets K (suc b)) * (2 - 1) ^ b) blocks ≡ sum (λ b. sum (λ A. 1) (sets K (suc b))) blocks =
    sum-ext (λ b. length (sets K (suc b)) * (2 - 1) ^ b) (λ b. sum (λ A. 1) (sets K (suc b)))
    (λ b. ap (λ n. length (sets K (suc b)) * n) (one-pow b) ∙ mul-one (length (sets K (suc b))) ∙ sym (sum_one (sets K (suc b)))) blocks in
    omega (
      arith,
      each,
      sum-flat_map (λ A. 1) (λ b. sets K (suc b)) blocks,
      sum_one (flat_map (λ b. sets K (suc b)) blocks),
      row-count-product 2 K (omega arith),
      mul-one (row_count 2 K),
    )

pub all-bytes : (K power : ℕ) → power ≡ 2 ^ K → length (map byte_of (all_sets K)) ≡ power - 1
all-bytes K power e = length-map (all_sets K) byte_of ∙ omega (arith, all-length K)

pub subsets-few : (K : ℕ) → K ≤ 8 → 2 ^ K ≤ 256
subsets-few K few = pow-le-pow_right {n = 2} (omega arith) {j = 8} few

-- the part of the table from 2^K on, by one computed test for each K
listed-part : (K : ℕ) → K ≤ 8 → cut (2 ^ K) (2 ^ K - 1) listed_sets ≡ map byte_of (all_sets K)
unfolding listed_sets byte_of bit all_sets
listed-part zero few = refl
listed-part (suc zero) few = refl
listed-part (suc (suc zero)) few = refl
listed-part (suc (suc (suc zero))) few = refl
listed-part (suc (suc (suc (suc zero)))) few = refl
listed-part (suc (suc (suc (suc (suc zero))))) few = refl
listed-part (suc (suc (suc (suc (suc (suc zero)))))) few = refl
listed-part (suc (suc (suc (suc (suc (suc (suc zero))))))) few = refl
listed-part (suc (suc (suc (suc (suc (suc (suc (suc zero)))))))) few = refl
listed-part (suc (suc (suc (suc (suc (suc (suc (suc (suc K))))))))) few = absurd (let w : ⊥ = omega arith in w)

listed_at : (K i : ℕ) → K ≤ 8 → i < length (all_sets K) → get_or listed_sets (2 ^ K + i) 0 ≡ get_or (map byte_of (all_sets K)) i 0
listed_at K i few h =
    sym (get_or-drop (2 ^ K) listed_sets i 0)
    ∙ sym (get_or-take (2 ^ K - 1) (drop (2 ^ K) listed_sets) i 0 (omega (arith, all-length K)))
    ∙ ap (λ (l : List ℕ). get_or l i 0) (listed-part K few)

-- an entry of the table in rows of eight
row-entry : (d : List ℕ) (place : ℕ) → place < 512 → get_or (get_or listed_rows (place / 8) d) (place % 8) 0 ≡ get_or listed_sets place 0
unfolding listed_rows
row-entry d place h =
    let row = place / 8 in
    let inside : place % 8 < 8 = mod-lt place (omega arith) in
    let whole : row * 8 + place % 8 ≡ place = div-add-mod' place 8 in
    ap (λ (l : List ℕ). get_or l (place % 8) 0) (mapped_at (λ row. cut (row * 8) 8 listed_sets) d 64 row (omega arith))
    ∙ get_or-take 8 (drop (row * 8) listed_sets) (place % 8) 0 inside
    ∙ get_or-drop (row * 8) listed_sets (place % 8) 0
    ∙ ap (λ (n : ℕ). get_or listed_sets n 0) whole

-- the set at index i of those of K messages
pub listed-entry : (K i : ℕ) (d : List ℕ) → K ≤ 8 → i < length (all_sets K)
    → get_or (get_or listed_rows ((2 ^ K + i) / 8) d) ((2 ^ K + i) % 8) 0 ≡ get_or (map byte_of (all_sets K)) i 0
listed-entry K i d few h = row-entry d (2 ^ K + i) (omega (arith, all-length K, subsets-few K few)) ∙ listed_at K i few h
