-- Where a row of digits names a symbol, without a search: at the start of its answer, if the message's digit is the symbol's number and one more
-- (`row-located`; `short-located` for the short and the turning code).
use mathlib.Core.Path.{◌≡◌, refl, sym, ap, ◌∙◌}
use mathlib.Core.Bool.{Bool, true, false, not, cond}
use mathlib.Core.List.{List, [], ◌∷◌}
use Prim.Native.Nat.{ℕ, zero, suc, ◌+◌, ◌<◌}
use native.Mathlib.Nat.{zero-add}
use native.Mathlib.Decide.{ℕ_discrete, dec_lt}
use native.Mathlib.Omega.{arith}
use borrow.Author.Tests.{eq-eqb, ne_eqb}
use lib.Dec.{eqb, eqb-zero-suc}
use lib.ListN.{length, get_or, get_or-eq_default}
use Rattle.lists.specs.Sums.{bit, sum}
use Rattle.lists.proofs.Below.{all_below-below}
use Rattle.std.specs.Prelude.{Option, Some, None}
use Rattle.scheme.specs.Asked.{is_cell, times_in, place_naming}
use Rattle.short_scheme.specs.Short.{all_zero}
use Rattle.short_scheme.specs.Asked.{digit_cells, digit_rows}
use Rattle.short_scheme.proofs.Cells.{none-behind, other-message}

-- a digit names a symbol exactly if it is the symbol's number and one more
digit-times : (from d q j : ℕ) (row : List ℕ) → times_in (q + j) (from + d) (digit_cells from q row) ≡ bit (eqb (get_or row j 0) (suc d))
unfolding times_in sum digit_cells bit
digit-times from d q j [] = rw (eqb-zero-suc d)
digit-times from d q zero (zero ∷ row) =
    none-behind from (q + 0) (from + d) (suc q) row (omega arith) ∙ sym (rw (eqb-zero-suc d))
digit-times from d q (suc j) (zero ∷ row) =
    ap (λ (p : ℕ). times_in p (from + d) (digit_cells from (suc q) row)) (let e : q + suc j ≡ suc q + j = omega arith in e)
    ∙ digit-times from d (suc q) j row
digit-times from d q zero (suc x ∷ row) =
    let rest : times_in (q + 0) (from + d) (digit_cells from (suc q) row) ≡ 0 = none-behind from (q + 0) (from + d) (suc q) row (omega arith) in
    go (ℕ_discrete x d) rest
  where
    go : Dec (x ≡ d) → times_in (q + 0) (from + d) (digit_cells from (suc q) row) ≡ 0
        → bit (is_cell (q + 0) (from + d) (q, from + x)) + times_in (q + 0) (from + d) (digit_cells from (suc q) row) ≡ bit (eqb (suc x) (suc d))
    go (yes e) rest = rw (eq-eqb q (q + 0) (omega arith), eq-eqb (from + x) (from + d) (omega arith), eq-eqb (suc x) (suc d) (omega arith), rest)
    go (no e) rest =
        rw (
          eq-eqb q (q + 0) (omega arith),
          ne_eqb (from + x) (from + d) (λ n. e (omega arith)),
          ne_eqb (suc x) (suc d) (λ n. e (omega arith)),
          rest,
        )
digit-times from d q (suc j) (suc x ∷ row) =
    let head : bit (is_cell (q + suc j) (from + d) (q, from + x)) ≡ 0 = other-message (q + suc j) (from + d) q (from + x) (λ n. let w : ⊥ = omega arith in w) in
    let tail : times_in (q + suc j) (from + d) (digit_cells from (suc q) row) ≡ bit (eqb (get_or row j 0) (suc d)) =
    ap (λ (p : ℕ). times_in p (from + d) (digit_cells from (suc q) row)) (let e : q + suc j ≡ suc q + j = omega arith in e)
    ∙ digit-times from d (suc q) j row in
    omega (arith, head, tail)

digit-of-zeros : (row : List ℕ) (p : ℕ) → all_zero row ≡ true → get_or row p 0 ≡ 0
digit-of-zeros row p e = go (dec_lt p (length row))
  where
    go : Dec (p < length row) → get_or row p 0 ≡ 0
    go (yes h) = let low = all_below-below 1 row e p h in omega arith
    go (no h) = get_or-eq_default row 0 {n = p} (omega arith)

-- one row
pub row-located : (S from d p : ℕ) (row : List ℕ) → place_naming S p (from + d) (digit_rows from row) ≡ cond (eqb (get_or row p 0) (suc d)) (Some 0) None
unfolding place_naming digit_rows bit
row-located S from d p row = go (all_zero row) refl
  where
    times : times_in p (from + d) (digit_cells from 0 row) ≡ bit (eqb (get_or row p 0) (suc d))
    times = ap (λ (n : ℕ). times_in n (from + d) (digit_cells from 0 row)) (sym (zero-add p)) ∙ digit-times from d 0 p row

    tell : (u : Bool) → cond {A = Option ℕ} (not (eqb (bit u) 0)) (Some 0) None ≡ cond u (Some 0) None
    tell true = refl
    tell false = refl

    go : (t : Bool) → all_zero row ≡ t
        → place_naming S p (from + d) (cond t [] (digit_cells from 0 row ∷ [])) ≡ cond (eqb (get_or row p 0) (suc d)) (Some 0) None
    go true e = sym (ap (λ (u : Bool). cond u (Some 0) None) (ap (λ (x : ℕ). eqb x (suc d)) (digit-of-zeros row p e) ∙ eqb-zero-suc d))
    go false e = ap (λ (n : ℕ). cond (not (eqb n 0)) (Some 0) None) times ∙ tell (eqb (get_or row p 0) (suc d))

pub short-located : (S i p : ℕ) (row : List ℕ) → place_naming S p i (digit_rows 0 row) ≡ cond (eqb (get_or row p 0) (suc i)) (Some 0) None
short-located S i p row = ap (λ (n : ℕ). place_naming S p n (digit_rows 0 row)) (sym (zero-add i)) ∙ row-located S 0 i p row
