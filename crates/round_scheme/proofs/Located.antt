-- Where a round query names a symbol, without a search: behind the answers to the rows before that of the symbol's block, if the message's digit in that row
-- is the symbol's number in the block and one more (`round-located`).
use mathlib.Core.Path.{◌≡◌, refl, sym, ap, ap₂, ◌∙◌}
use mathlib.Core.Bool.{Bool, true, false, cond}
use mathlib.Core.List.{List, ◌∷◌, ◌++◌, flat_map}
use Prim.Native.Nat.{ℕ, suc, ◌+◌, ◌-◌, ◌*◌, ◌<◌}
use native.Mathlib.Nat.{add-zero}
use native.Mathlib.Omega.{arith}
use lib.Dec.{eqb}
use lib.ListN.{length, get_or}
use Rattle.lists.specs.Ranges.{range}
use Rattle.lists.specs.Sums.{sum, All}
use Rattle.lists.proofs.Each.{All-imp}
use Rattle.lists.proofs.Joined.{flat_map-append}
use Rattle.lists.proofs.Places.{same_number}
use Rattle.lists.proofs.Ranges.{range-around, All-from, All-range}
use Rattle.lists.proofs.Sums.{sum-all, sum-flat_map, sum-zero}
use Rattle.parameters.specs.Bounds.{blocks}
use Rattle.std.specs.Prelude.{Option, Some, None}
use Rattle.scheme.specs.Asked.{times_in, later, place_naming}
use Rattle.scheme.proofs.Places.{or_later, or-nowhere, placed-join, placed-none}
use Rattle.short_scheme.specs.Rows.{DigitRow}
use Rattle.short_scheme.proofs.Located.{row-located}
use Rattle.round_scheme.specs.Round.{row, length_before}
use Rattle.round_scheme.specs.Asked.{block_rows}
use Rattle.round_scheme.proofs.Asks.{rows_in, times, other_block, first-length}

module _ (N K S : ℕ) (query : List ℕ) (rows : (i : ℕ) → i < blocks N K → DigitRow N K (row K query i)) (wide : 0 < N) (p b d : ℕ)
    (block : b < blocks N K) (digit : d < N - 1) where
  abbrev symbol : ℕ
  symbol = b * (N - 1) + d

  others : {list : List ℕ} → All (λ i. (i < blocks N K) × (i ≡ b → ⊥)) list → sum (times_in p symbol) (flat_map (rows_in N K query) list) ≡ 0
  others {list} a =
      sum-flat_map (times_in p symbol) (rows_in N K query) list
      ∙ sum-all (times N K query rows wide p symbol) (λ i. 0)
      (All-imp (λ i h. other_block N K query rows wide p symbol i h.0 (λ e k same. h.1 (same_number (N - 1) i e b d k digit (sym same)).0)) a)
      ∙ sum-zero list

  pub round-located : place_naming S p symbol (block_rows N K query)
      ≡ cond (eqb (get_or (row K query b) p 0) (suc d)) (Some (length_before K S query b)) None
  unfolding block_rows flat_map
  round-located =
      let before = flat_map (rows_in N K query) (range 0 b) in
      let here = rows_in N K query b in
      let behind = flat_map (rows_in N K query) (range (suc b) (blocks N K - suc b)) in
      let split : flat_map (rows_in N K query) (range 0 (blocks N K)) ≡ before ++ (here ++ behind) =
      ap (flat_map (rows_in N K query)) (range-around (blocks N K) b block)
      ∙ flat_map-append (rows_in N K query) (range 0 b) (b ∷ range (suc b) (blocks N K - suc b)) in
      let first = placed-none S p symbol before (others (All-range b (λ i h. (omega arith, λ e. let w : ⊥ = omega arith in w)))) in
      let last = placed-none S p symbol behind
      (others (All-from (suc b) (blocks N K - suc b) (λ i l h. (omega arith, λ e. let w : ⊥ = omega arith in w)))) in
      ap (place_naming S p symbol) split
      ∙ placed-join S p symbol before (here ++ behind)
      ∙ ap₂ (λ (x y : Option ℕ). or_later (length before * S) x y) first
      (placed-join S p symbol here behind ∙ ap (or_later (length here * S) (place_naming S p symbol here)) last
      ∙ or-nowhere (length here * S) (place_naming S p symbol here) ∙ row-located S (b * (N - 1)) d p (row K query b))
      ∙ tell (eqb (get_or (row K query b) p 0) (suc d)) (length before * S)
      ∙ ap (λ (n : ℕ). cond (eqb (get_or (row K query b) p 0) (suc d)) (Some n) None) (sym (first-length N K S query b))
    where
      tell : (t : Bool) (n : ℕ) → later n (cond t (Some 0) None) ≡ cond t (Some n) None
      tell true n = ap Some (add-zero n)
      tell false n = refl
