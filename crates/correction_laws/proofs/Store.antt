-- The store after one byte was set: that byte of its own symbol is new (`own-symbol`), and every other symbol is as it was (`other-symbol`), so every cell
-- but one is (`other-cell`). By bytes: `only_one`.
use mathlib.Core.Path.{◌≡◌, sym, ap, ap₂, ◌∙◌}
use mathlib.Core.Bool.{true, false, true≢false}
use mathlib.Core.List.{List}
use Prim.Native.Nat.{ℕ, ◌+◌, ◌-◌, ◌*◌, ◌<◌}
use native.Mathlib.Decide.{dec_lt}
use native.Mathlib.Omega.{arith}
use borrow.Author.Tests.{eq-eqb, eqb-true}
use lib.Dec.{eqb}
use lib.ListN.{length, set, take, drop, length-set}
use lib.Seq.{drop-set-add, drop-set-lt, take-set-le, take-set-lt, get_or-set_same, get_or-set_other}
use Rattle.lists.proofs.Both.{both_true, true-both}
use Rattle.lists.proofs.Cuts.{slot-end}
use Rattle.symbol.specs.Sum.{symbol_at}
use Rattle.scheme.specs.Asked.{Cell, cell_symbol, is_cell}
use Rattle.lists.proofs.Places.{same_number}
use Rattle.correction_laws.specs.Named.{OnlyOne}

module _ (S : ℕ) (store : List ℕ) (j b v : ℕ) (inside : b < S) where
  pub own-symbol : symbol_at S (set store (j * S + b) v) j ≡ set (symbol_at S store j) b v
  own-symbol = ap (take S) (drop-set-add (j * S) store b v) ∙ take-set-lt S (drop (j * S) store) b v inside

  pub other-symbol : (m : ℕ) → (m ≡ j → ⊥) → symbol_at S (set store (j * S + b) v) m ≡ symbol_at S store m
  other-symbol m apart = go (dec_lt m j) (dec_lt j m)
    where
      go : Dec (m < j) → Dec (j < m) → symbol_at S (set store (j * S + b) v) m ≡ symbol_at S store m
      go (yes h) d =
          let over : ℕ = j * S + b - m * S in
          let e : j * S + b ≡ m * S + over = omega (arith, slot-end m j S h) in
          ap (λ (n : ℕ). symbol_at S (set store n v) m) e
          ∙ ap (take S) (drop-set-add (m * S) store over v)
          ∙ take-set-le S (drop (m * S) store) over v (omega (arith, slot-end m j S h))
      go (no h) (yes l) = ap (take S) (drop-set-lt (m * S) store (j * S + b) v (omega (arith, slot-end j m S l)))
      go (no h) (no l) = absurd (apart (omega arith))

module _ (symbols S : ℕ) (store : List ℕ) (p i b v : ℕ) (known : i < symbols) (inside : b < S) where
  abbrev after : List ℕ
  after = set store ((p * symbols + i) * S + b) v

  pub other-cell : (cell : Cell) → cell.1 < symbols → is_cell p i cell ≡ false → cell_symbol symbols S after cell ≡ cell_symbol symbols S store cell
  other-cell cell low e =
      other-symbol S store (p * symbols + i) b v inside (cell.0 * symbols + cell.1) (λ same.
      let parts = same_number symbols cell.0 cell.1 p i low known same in
      true≢false (sym (true-both (eq-eqb cell.0 p parts.0) (eq-eqb cell.1 i parts.1)) ∙ e))

  pub own-cell : (cell : Cell) → is_cell p i cell ≡ true → cell_symbol symbols S after cell ≡ set (cell_symbol symbols S store cell) b v
  own-cell cell e =
      let parts = both_true (eqb cell.0 p) (eqb cell.1 i) e in
      let same : p * symbols + i ≡ cell.0 * symbols + cell.1 =
      ap₂ (λ (q k : ℕ). q * symbols + k) (sym (eqb-true cell.0 p parts.0)) (sym (eqb-true cell.1 i parts.1)) in
      ap (λ (j : ℕ). symbol_at S (set store (j * S + b) v) (cell.0 * symbols + cell.1)) same
      ∙ own-symbol S store (cell.0 * symbols + cell.1) b v inside

pub only_one : (store : List ℕ) (place value : ℕ) → place < length store → OnlyOne store (set store place value) place value
only_one store place value inside = record {
  long = length-set store place value;
  there = get_or-set_same store place value 0 inside;
  elsewhere = λ j apart. get_or-set_other store place j value 0 apart;
}
