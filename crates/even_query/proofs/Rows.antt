-- One row more of a set (`row-turn`), and one set more (`set-turn`): what is still to be written of a query's places. Rests on the
-- definitions by set (even_ranks/specs/Walk.antt).
use Prim.Native.Nat.{ℕ, suc, ◌+◌, ◌-◌, ◌/◌, ◌%◌, ◌^◌, ◌≤◌, ◌<◌}
use native.Mathlib.Nat.{sub-zero, add-sub_cancel_left}
use native.Mathlib.Numerals.{add-one}
use native.Mathlib.Omega.{arith}
use mathlib.Core.Path.{◌≡◌, sym, ap, ◌∙◌}
use mathlib.Core.Bool.{Bool, cond, ◌&&◌}
use mathlib.Core.List.{List, [], ◌++◌, map, flat_map}
use lib.Count.{ones as count}
use lib.Dec.{eqb, ltb}
use lib.ListN.{length, get_or, take, drop, length-map, length-append, drop_of_length-le}
use lib.Seq.{drop-cons}
use Rattle.lists.specs.Below.{Below}
use Rattle.lists.specs.Parts.{cut, put}
use Rattle.lists.specs.Ranges.{range}
use Rattle.lists.proofs.Cuts.{cut-length}
use Rattle.lists.proofs.Below.{below-front, below-back}
use Rattle.lists.proofs.Writing.{Pending, pending-part}
use Rattle.even_places.specs.Rule.{ones_in, members, all_sets}
use Rattle.even_sets.specs.Sets.{LayoutBounds, set_in, rows_of}
use Rattle.even_sets.proofs.SetBytes.{rows-high}
use Rattle.even_ranks.specs.Counts.{Stands, counters_of, set_counted}
use Rattle.even_ranks.specs.Walk.{origin_place, plain, joined, origin_of, row_places, set_places, sets_places}
use Rattle.even_ranks.specs.declared.Origin.{Origin}
use Rattle.even_ranks.proofs.Steps.{Lent, stands-count, stands_set}
use Rattle.even_query.specs.Query.{OriginWithin}
use Rattle.even_query.proofs.Steps.{origin-byte, origin-within}

pub rows_fit : (N K byte : ℕ) → LayoutBounds N K → Stands K byte → (N - 1) ^ (count byte - 1) ≤ 256
unfolding rows_of
rows_fit N K byte bounds s =
    rw (stands-count K byte s) (rows-high N K bounds (set_in K byte) (stands_set K byte s))

module _ (N k server : ℕ) (totals : List ℕ) where
  -- the places of a set's rows from i on
  unfoldable pub rows_from : List ℕ → List Bool → ℕ → List ℕ
  rows_from ranks A i = flat_map (row_places N k server totals ranks A) (range i ((N - 1) ^ (ones_in A - 1) - i))

  pub rows_start : (ranks : List ℕ) (A : List Bool) → rows_from ranks A 0 ≡ set_places N k server totals ranks A
  unfolding rows_from set_places
  rows_start ranks A = rw (sub-zero ((N - 1) ^ (ones_in A - 1)))

  rows_more : (ranks : List ℕ) (A : List Bool) (i : ℕ) → i < (N - 1) ^ (ones_in A - 1)
      → rows_from ranks A i ≡ row_places N k server totals ranks A i ++ rows_from ranks A (i + 1)
  unfolding rows_from flat_map range
  rows_more ranks A i h =
      let left : (N - 1) ^ (ones_in A - 1) - i ≡ suc ((N - 1) ^ (ones_in A - 1) - (i + 1)) = omega arith in
      rw (left, add-one i)

  pub rows-done : (ranks : List ℕ) (A : List Bool) (i : ℕ) → (N - 1) ^ (ones_in A - 1) ≤ i → rows_from ranks A i ≡ []
  unfolding rows_from flat_map range
  rows-done ranks A i h =
      let none : (N - 1) ^ (ones_in A - 1) - i ≡ 0 = omega arith in
      rw none

  sets_more : (counts : List ℕ) (L : List (List Bool)) (A : List Bool) (i : ℕ) → i < length L → A ≡ get_or L i []
      → sets_places N k server totals counts (drop i L)
      ≡ set_places N k server totals (cut (counters_of k A) (length A) counts) A ++ sets_places N k server totals (set_counted k A counts) (drop (i + 1) L)
  unfolding sets_places
  sets_more counts L A i h e = rw (add-one i, e, drop-cons L i [] h)

  pub sets-done : (counts : List ℕ) (L : List (List Bool)) (i : ℕ) → length L ≤ i → sets_places N k server totals counts (drop i L) ≡ []
  unfolding sets_places
  sets-done counts L i h = rw (drop_of_length-le L h)

-- the counters that are lent are the set's ranks
ranks-lent : (K k byte at : ℕ) (counts : List ℕ) → Lent K k byte at
    → take (at + K - at) (drop at counts) ≡ cut (counters_of k (set_in K byte)) (length (set_in K byte)) counts
ranks-lent K k byte at counts l = rw (add-sub_cancel_left at K, l.begins, l.set.long)

-- ---- A turn of each loop: `left` is what is still to be written of `bytes`, from `end` on

-- the row numbered i of a set, by the origin that was found for it
pub record RowTurn (N K k server byte i : ℕ) (totals ranks : List ℕ) (o : Origin) (at : ℕ) (bytes buffer : List ℕ) (end : ℕ) (out : List ℕ) : Type 0 where
  pub within : OriginWithin o
  pub small : Below 256 (map (origin_place N k totals ranks o) (members 0 (set_in K byte)))
  pub room : end + length (members 0 (set_in K byte)) ≤ length out
  pub rest-small : Below 256 (rows_from N k server totals ranks (set_in K byte) (i + 1))
  pub rest :
      Pending at bytes buffer (end + length (members 0 (set_in K byte))) (rows_from N k server totals ranks (set_in K byte) (i + 1))
      (put end (map (origin_place N k totals ranks o) (members 0 (set_in K byte))) out)

pub row-turn : {N K k server byte i : ℕ} {totals ranks : List ℕ} {joins : Bool} {o : Origin} {at : ℕ} {bytes buffer : List ℕ} {end : ℕ} {out : List ℕ}
    → Stands K byte → 2 ≤ N → K ≤ 8 → i < (N - 1) ^ (ones_in (set_in K byte) - 1)
    → joins ≡ eqb (byte / 2 ^ k % 2) 1 && ltb 1 (count byte) → o ≡ cond joins (joined N server (count byte) i) (plain N server (count byte) i)
    → Below 256 (rows_from N k server totals ranks (set_in K byte) i) → Pending at bytes buffer end (rows_from N k server totals ranks (set_in K byte) i) out
    → RowTurn N K k server byte i totals ranks o at bytes buffer end out
unfolding row_places
row-turn {N} {K} {k} {server} {byte} {i} {totals} {ranks} {joins} {o} {end = end} {out = out} stands wide few inside e f small left =
    let A = set_in K byte in
    let found : o ≡ origin_of N k server A i =
    f ∙ ap (λ (t : Bool). cond t (joined N server (count byte) i) (plain N server (count byte) i)) e ∙ origin-byte K k byte stands N server i in
    let row = map (origin_place N k totals ranks o) (members 0 A) in
    let rest = rows_from N k server totals ranks A (i + 1) in
    let more : rows_from N k server totals ranks A i ≡ row ++ rest =
    rows_more N k server totals ranks A i inside ∙ ap (λ (x : Origin). map (origin_place N k totals ranks x) (members 0 A) ++ rest) (sym found) in
    let size : length row ≡ length (members 0 A) = length-map (members 0 A) (origin_place N k totals ranks o) in
    let here = rw more at left in
    record {
      within = rw found (origin-within K k byte stands N server i wide few);
      small = below-front 256 row rest (rw more at small);
      room = omega (arith, here.room, length-append row rest);
      rest-small = below-back 256 row rest (rw more at small);
      rest = rw (← size) (pending-part row rest here);
    }

-- the set numbered i, with the counters that are lent for it
pub record SetTurn (N K k server byte i from : ℕ) (totals counts : List ℕ) (at : ℕ) (bytes buffer : List ℕ) (end : ℕ) (out : List ℕ) : Type 0 where
  pub ranks-long : length (take (from + K - from) (drop from counts)) ≡ K
  pub small : Below 256 (set_places N k server totals (take (from + K - from) (drop from counts)) (set_in K byte))
  pub room : end + length (set_places N k server totals (take (from + K - from) (drop from counts)) (set_in K byte)) ≤ length out
  pub rest-small : Below 256 (sets_places N k server totals (set_counted k (set_in K byte) counts) (drop (i + 1) (all_sets K)))
  pub rest :
      Pending at bytes buffer (end + length (set_places N k server totals (take (from + K - from) (drop from counts)) (set_in K byte)))
      (sets_places N k server totals (set_counted k (set_in K byte) counts) (drop (i + 1) (all_sets K)))
      (put end (set_places N k server totals (take (from + K - from) (drop from counts)) (set_in K byte)) out)

pub set-turn : {N K k server byte i from : ℕ} {totals counts : List ℕ} {at : ℕ} {bytes buffer : List ℕ} {end : ℕ} {out : List ℕ}
    → Lent K k byte from → length counts ≡ 128 → i < length (all_sets K) → set_in K byte ≡ get_or (all_sets K) i []
    → Below 256 (sets_places N k server totals counts (drop i (all_sets K)))
    → Pending at bytes buffer end (sets_places N k server totals counts (drop i (all_sets K))) out
    → SetTurn N K k server byte i from totals counts at bytes buffer end out
set-turn {N} {K} {k} {server} {byte} {i} {from} {totals} {counts} {end = end} {out = out} l long inside e small left =
    let A = set_in K byte in
    let ranks = take (from + K - from) (drop from counts) in
    let front = set_places N k server totals ranks A in
    let rest = sets_places N k server totals (set_counted k A counts) (drop (i + 1) (all_sets K)) in
    let more : sets_places N k server totals counts (drop i (all_sets K)) ≡ front ++ rest =
    sets_more N k server totals counts (all_sets K) A i inside e
    ∙ ap (λ (x : List ℕ). set_places N k server totals x A ++ rest) (sym (ranks-lent K k byte from counts l)) in
    let here = rw more at left in
    record {
      ranks-long = ap (λ (m : ℕ). length (take m (drop from counts))) (add-sub_cancel_left from K) ∙ cut-length from K counts (omega (arith, l.fits));
      small = below-front 256 front rest (rw more at small);
      room = omega (arith, here.room, length-append front rest);
      rest-small = below-back 256 front rest (rw more at small);
      rest = pending-part front rest here;
    }
