-- The cells of a row of digits (short, turning and round code): their symbols are those that the digits name (`digits-named`), they lie in the messages
-- (`digits-inside`), a symbol is named once at most (`digits-once`), and none outside the block (`digits-block`).
use mathlib.Core.Path.{◌≡◌, refl, sym, ap, ap₂, ◌∙◌}
use mathlib.Core.Bool.{Bool, true, false, cond, ◌&&◌}
use mathlib.Core.List.{List, [], ◌∷◌, map, flat_map, append-nil}
use Prim.Native.Nat.{ℕ, zero, suc, ◌+◌, ◌-◌, ◌*◌, ◌≤◌, ◌<◌}
use native.Mathlib.Nat.{suc-mul, zero-mul}
use native.Mathlib.Decide.{ℕ_discrete}
use native.Mathlib.Omega.{arith}
use borrow.Author.Tests.{ne_eqb}
use lib.Dec.{eqb}
use lib.ListN.{length}
use Rattle.lists.specs.Below.{Below}
use Rattle.lists.specs.Sums.{bit, sum, All, all_nil, all_cons}
use Rattle.lists.proofs.Bits.{bit-small}
use Rattle.symbol.specs.Sum.{Sum, symbol_at, total}
use Rattle.short_scheme.specs.Short.{all_zero, named, short_answer_length, strided_answer}
use Rattle.scheme.specs.Asked.{Cell, cell_symbol, rows_total, rows_answer, is_cell, times_in}
use Rattle.short_scheme.specs.Asked.{digit_cells, digit_rows}
use Rattle.scheme.specs.Asks.{CellIn}

abbrev symbols_of : ℕ → ℕ → List ℕ → List Cell → List (List ℕ)
symbols_of stride S store cells = map (cell_symbol stride S store) cells

-- what the digits name, where message p's symbols are those from p × stride on
pub digits-named : (stride S : ℕ) (store : List ℕ) (from first p : ℕ) (row : List ℕ) → first ≡ p * stride + from
    → named first stride S store row ≡ symbols_of stride S store (digit_cells from p row)
unfolding named digit_cells
digits-named stride S store from first p [] e = refl
digits-named stride S store from first p (zero ∷ row) e =
    digits-named stride S store from (first + stride) (suc p) row (omega (arith, e, suc-mul p stride))
digits-named stride S store from first p (suc d ∷ row) e =
    ap₂ (λ (x : List ℕ) (xs : List (List ℕ)). x ∷ xs)
    (ap (symbol_at S store) (let n : first + d ≡ p * stride + (from + d) = omega (arith, e) in n))
    (digits-named stride S store from (first + stride) (suc p) row (omega (arith, e, suc-mul p stride)))

-- the answer to a row, of no bytes for the row of zeros
pub row-answered : (by : Sum) (stride S : ℕ) (store : List ℕ) (from : ℕ) (row : List ℕ)
    → strided_answer by from stride S store row ≡ rows_answer by stride S store (digit_rows from row)
unfolding rows_total digit_rows flat_map
row-answered by stride S store from row = go (all_zero row)
  where
    go : (t : Bool) → cond t [] (total by S (named from stride S store row)) ≡ rows_answer by stride S store (cond t [] (digit_cells from 0 row ∷ []))
    go true = refl
    go false =
        ap (total by S) (digits-named stride S store from from 0 row (omega (arith, zero-mul stride)))
        ∙ sym (append-nil (total by S (symbols_of stride S store (digit_cells from 0 row))))

pub row-length : (S from : ℕ) (row : List ℕ) → short_answer_length S row ≡ length (digit_rows from row) * S
unfolding short_answer_length digit_rows
row-length S from row = go (all_zero row)
  where
    go : (t : Bool) → cond t 0 S ≡ length (cond {A = List (List Cell)} t [] (digit_cells from 0 row ∷ [])) * S
    go true = sym (zero-mul S)
    go false = omega arith

-- digits below N, in blocks of N - 1 symbols
digits-inside : (N K symbols from p : ℕ) (row : List ℕ) → p + length row ≤ K → from + (N - 1) ≤ symbols → Below N row
    → All (CellIn K symbols) (digit_cells from p row)
unfolding digit_cells
digits-inside N K symbols from p [] h l b = all_nil
digits-inside N K symbols from p (zero ∷ row) h l b = digits-inside N K symbols from (suc p) row (omega arith) l (λ i k. b (suc i) (omega arith))
digits-inside N K symbols from p (suc d ∷ row) h l b =
    let low : suc d < N = b 0 (omega arith) in
    all_cons {x = (p, from + d)} (record { message = omega arith; symbol = omega arith })
    (digits-inside N K symbols from (suc p) row (omega arith) l (λ i k. b (suc i) (omega arith)))

pub rows_inside : (N K symbols from : ℕ) (row : List ℕ) → length row ≤ K → from + (N - 1) ≤ symbols → Below N row
    → All (All (CellIn K symbols)) (digit_rows from row)
unfolding digit_rows
rows_inside N K symbols from row h l b = go (all_zero row)
  where
    go : (t : Bool) → All (All (CellIn K symbols)) (cond t [] (digit_cells from 0 row ∷ []))
    go true = all_nil
    go false = all_cons (digits-inside N K symbols from 0 row (omega arith) l b) all_nil

-- ---- How often a symbol is named

-- another message, or another symbol
pub other-message : (p i q k : ℕ) → (q ≡ p → ⊥) → bit (is_cell p i (q, k)) ≡ 0
unfolding bit
other-message p i q k apart = rw (ne_eqb q p apart)

other-symbol : (p i q k : ℕ) → (k ≡ i → ⊥) → bit (is_cell p i (q, k)) ≡ 0
unfolding bit
other-symbol p i q k apart = rw (ne_eqb k i apart) (neither (eqb q p))
  where
    neither : (t : Bool) → bit (t && false) ≡ 0
    neither true = refl
    neither false = refl

module _ (from p i : ℕ) where
  -- messages behind it
  pub none-behind : (q : ℕ) (row : List ℕ) → p < q → times_in p i (digit_cells from q row) ≡ 0
  unfolding times_in sum digit_cells
  none-behind q [] h = refl
  none-behind q (zero ∷ row) h = none-behind (suc q) row (omega arith)
  none-behind q (suc d ∷ row) h =
      omega (arith, other-message p i q (from + d) (λ e. let w : ⊥ = omega arith in w), none-behind (suc q) row (omega arith))

  digits-once : (q : ℕ) (row : List ℕ) → times_in p i (digit_cells from q row) ≤ 1
  unfolding times_in sum digit_cells
  digits-once q [] = omega arith
  digits-once q (zero ∷ row) = digits-once (suc q) row
  digits-once q (suc d ∷ row) = go (ℕ_discrete q p) (digits-once (suc q) row)
    where
      go : Dec (q ≡ p) → times_in p i (digit_cells from (suc q) row) ≤ 1
          → bit (is_cell p i (q, from + d)) + times_in p i (digit_cells from (suc q) row) ≤ 1
      go (yes e) ih = omega (arith, bit-small (is_cell p i (q, from + d)), none-behind (suc q) row (omega arith))
      go (no e) ih = omega (arith, other-message p i q (from + d) e, ih)

  -- symbols of another block
  digits-block : (size q : ℕ) (row : List ℕ) → Below (suc size) row → ((d : ℕ) → d < size → i ≡ from + d → ⊥) → times_in p i (digit_cells from q row) ≡ 0
  unfolding times_in sum digit_cells
  digits-block size q [] b apart = refl
  digits-block size q (zero ∷ row) b apart = digits-block size (suc q) row (λ j h. b (suc j) (omega arith)) apart
  digits-block size q (suc d ∷ row) b apart =
      let low : suc d < suc size = b 0 (omega arith) in
      omega (
        arith,
        other-symbol p i q (from + d) (λ e. apart d (omega arith) (sym e)),
        digits-block size (suc q) row (λ j h. b (suc j) (omega arith)) apart,
      )

  times-row : (row : List ℕ) → sum (times_in p i) (digit_rows from row) ≤ times_in p i (digit_cells from 0 row)
  unfolding digit_rows sum
  times-row row = go (all_zero row)
    where
      go : (t : Bool) → sum (times_in p i) (cond t [] (digit_cells from 0 row ∷ [])) ≤ times_in p i (digit_cells from 0 row)
      go true = omega arith
      go false = omega arith

  pub rows-once : (row : List ℕ) → sum (times_in p i) (digit_rows from row) ≤ 1
  rows-once row = omega (arith, times-row row, digits-once 0 row)

  pub rows-block : (size : ℕ) (row : List ℕ) → Below (suc size) row → ((d : ℕ) → d < size → i ≡ from + d → ⊥) → sum (times_in p i) (digit_rows from row) ≡ 0
  rows-block size row b apart = omega (arith, times-row row, digits-block size 0 row b apart)
