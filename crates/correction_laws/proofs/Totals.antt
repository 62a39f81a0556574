-- Rows whose cells' symbols change at one cell, which they name once at most: their totals are moved where it is named (`rows-moved`). Over any abelian group.
use mathlib.Core.Path.{◌≡◌, refl, sym, ap, ap₂, ◌∙◌}
use mathlib.Core.Bool.{Bool, true, false, not, cond}
use mathlib.Core.List.{List, ◌∷◌, ◌++◌, map, flat_map}
use Rattle.std.specs.Prelude.{Option, Some, None}
use Rattle.scheme.specs.Asked.{Cell, rows_total, is_cell, times_in, later, place_naming}
use Rattle.correction.specs.Moved.{moved}
use Rattle.lists.proofs.Places.{cut_later, put-later}
use Prim.Native.Nat.{ℕ, ◌+◌, ◌≤◌}
use native.Mathlib.Omega.{arith}
use borrow.Author.Tests.{eqb-true, eqb-false}
use lib.Dec.{eqb}
use lib.ListN.{length, drop}
use lib.Seq.{take_at, drop_at}
use Rattle.lists.specs.Parts.{cut, put}
use Rattle.lists.specs.Sums.{bit, sum, All, all_nil, all_cons}
use Rattle.lists.proofs.Bits.{bit-zero}
use Rattle.lists.proofs.Each.{All-map, All-imp}
use Rattle.symbol.specs.Group.{AbelianGroup, Symbols}
use Rattle.symbol.specs.Sum.{Symbol, Sum, total_from, total}
use Rattle.symbol.proofs.Totals.{zeros-symbol, total-symbol, from-plus}

-- the symbols of the good cells, before and after: one cell's is moved, and the others' are as they were
pub record Changed (by : Sum) (S : ℕ) (before after : Cell → List ℕ) (Good : Cell → Type 0) (p i : ℕ) (shift : List ℕ) : Type 0 where
  pub symbol : (cell : Cell) → Good cell → Symbol S (before cell)
  pub shift-symbol : Symbol S shift
  pub same : (cell : Cell) → Good cell → is_cell p i cell ≡ false → after cell ≡ before cell
  pub one : (cell : Cell) → Good cell → is_cell p i cell ≡ true → after cell ≡ by.plus (before cell) shift

module _ (by : Sum) (S : ℕ) (group : AbelianGroup by S) (before after : Cell → List ℕ) (Good : Cell → Type 0) (p i : ℕ) (shift : List ℕ)
    (changed : Changed by S before after Good p i shift) where
  symbols : {cells : List Cell} → All Good cells → Symbols S (map before cells)
  symbols a = All-map before (All-imp changed.symbol a)

  -- ---- One row

  row_same : {cells : List Cell} → All Good cells → times_in p i cells ≡ 0 → map after cells ≡ map before cells
  unfolding times_in sum
  row_same all_nil e = refl
  row_same (all_cons {x = cell} {xs = cells} h a) e =
      let first : bit (is_cell p i cell) ≡ 0 = omega (arith, e) in
      let rest : times_in p i cells ≡ 0 = omega (arith, e) in
      ap₂ (λ (x : List ℕ) (xs : List (List ℕ)). x ∷ xs) (changed.same cell h (bit-zero (is_cell p i cell) first)) (row_same a rest)

  row_one : {start : List ℕ} {cells : List Cell} → Symbol S start → All Good cells → times_in p i cells ≡ 1
      → total_from by start (map after cells) ≡ by.plus (total_from by start (map before cells)) shift
  unfolding total_from times_in sum bit
  row_one s all_nil e = absurd (let w : ⊥ = omega (arith, e) in w)
  row_one {start} s (all_cons {x = cell} {xs = cells} h a) e =
      go (is_cell p i cell) refl e (row_one {start = by.plus start (before cell)} (group.plus-symbol s (changed.symbol cell h)) a)
    where
      go : (t : Bool) → is_cell p i cell ≡ t → bit t + times_in p i cells ≡ 1
          → (times_in p i cells ≡ 1 → total_from by (by.plus start (before cell)) (map after cells)
          ≡ by.plus (total_from by (by.plus start (before cell)) (map before cells)) shift)
          → total_from by (by.plus start (after cell)) (map after cells)
          ≡ by.plus (total_from by (by.plus start (before cell)) (map before cells)) shift
      go true q n ih =
          let here : by.plus start (after cell) ≡ by.plus (by.plus start (before cell)) shift =
          ap (by.plus start) (changed.one cell h q) ∙ sym (group.plus_assoc s (changed.symbol cell h) changed.shift-symbol) in
          ap₂ (total_from by) here (row_same a (let z : times_in p i cells ≡ 0 = omega (arith, n) in z))
          ∙ from-plus by S group (group.plus-symbol s (changed.symbol cell h)) changed.shift-symbol (symbols a)
      go false q n ih =
          ap (λ (x : List ℕ). total_from by (by.plus start x) (map after cells)) (changed.same cell h q)
          ∙ ih (let z : times_in p i cells ≡ 1 = omega (arith, n) in z)

  total-one : {cells : List Cell} → All Good cells → times_in p i cells ≡ 1
      → total by S (map after cells) ≡ by.plus (total by S (map before cells)) shift
  unfolding total
  total-one a e = row_one (zeros-symbol S) a e

  total-long : {cells : List Cell} → All Good cells → length (total by S (map before cells)) ≡ S
  total-long a = (total-symbol by S group (symbols a)).long

  -- ---- Rows

  rows_same : {rows : List (List Cell)} → All (All Good) rows → sum (times_in p i) rows ≡ 0 → rows_total by S after rows ≡ rows_total by S before rows
  unfolding rows_total flat_map sum
  rows_same all_nil e = refl
  rows_same (all_cons {x = cells} {xs = rows} a more) e =
      let first : times_in p i cells ≡ 0 = omega (arith, e) in
      let rest : sum (times_in p i) rows ≡ 0 = omega (arith, e) in
      ap₂ (λ (x y : List ℕ). x ++ y) (ap (total by S) (row_same a first)) (rows_same more rest)

  -- a first symbol, then the rest
  module _ (first rest : List ℕ) (long : length first ≡ S) where
    moved-first : put 0 (by.plus (cut 0 S (first ++ rest)) shift) (first ++ rest) ≡ by.plus first shift ++ rest
    moved-first =
        ap (λ (x : List ℕ). by.plus x shift ++ drop (length (by.plus x shift)) (first ++ rest)) (take_at first rest S long)
        ∙ ap (λ (l : List ℕ). by.plus first shift ++ l)
        (drop_at first rest (length (by.plus first shift)) (long ∙ sym (group.plus-length first shift long changed.shift-symbol.long)))

    moved_later : (place : Option ℕ) → first ++ moved by S place shift rest ≡ moved by S (later S place) shift (first ++ rest)
    unfolding moved
    moved_later None = refl
    moved_later (Some at) =
        sym (ap (λ (x : List ℕ). put (S + at) (by.plus x shift) (first ++ rest)) (cut_later S first rest long at S)
        ∙ put-later S first rest long at (by.plus (cut at S rest) shift))

  pub rows-moved : {rows : List (List Cell)} → All (All Good) rows → sum (times_in p i) rows ≤ 1
      → rows_total by S after rows ≡ moved by S (place_naming S p i rows) shift (rows_total by S before rows)
  unfolding rows_total flat_map sum place_naming moved
  rows-moved all_nil h = refl
  rows-moved (all_cons {x = cells} {xs = rows} a more) h =
      go (eqb (times_in p i cells) 0) refl (rows-moved more (let l : sum (times_in p i) rows ≤ 1 = omega (arith, h) in l))
    where
      go : (t : Bool) → eqb (times_in p i cells) 0 ≡ t → rows_total by S after rows ≡ moved by S (place_naming S p i rows) shift (rows_total by S before rows)
          → total by S (map after cells) ++ rows_total by S after rows
          ≡ moved by S (cond (not t) (Some 0) (later S (place_naming S p i rows))) shift (total by S (map before cells) ++ rows_total by S before rows)
      go true e ih =
          ap₂ (λ (x y : List ℕ). x ++ y) (ap (total by S) (row_same a (eqb-true (times_in p i cells) 0 e))) ih
          ∙ moved_later (total by S (map before cells)) (rows_total by S before rows) (total-long a) (place_naming S p i rows)
      go false e ih =
          let some-times : times_in p i cells ≡ 0 → ⊥ = eqb-false (times_in p i cells) 0 e in
          let here : times_in p i cells ≡ 1 = omega (arith, h) in
          let none-later : sum (times_in p i) rows ≡ 0 = omega (arith, h) in
          ap₂ (λ (x y : List ℕ). x ++ y) (total-one a here) (rows_same more none-later)
          ∙ sym (moved-first (total by S (map before cells)) (rows_total by S before rows) (total-long a))
