-- How the answer to a row is gathered: one digit more (`gather-more`), and what all digits leave behind is the answer: `gathered-answer`.
use mathlib.Core.Path.{◌≡◌, refl, sym, ap, ap₂, ◌∙◌}
use mathlib.Core.Bool.{Bool, true, false, cond}
use mathlib.Core.List.{List, [], ◌∷◌, ◌++◌}
use Prim.Native.Nat.{ℕ, zero, suc, ◌+◌, ◌-◌, ◌*◌, ◌<◌}
use native.Mathlib.Nat.{not-suc-le-zero, suc-mul}
use native.Mathlib.Numerals.{add-one, sub-one}
use native.Mathlib.Omega.{arith}
use lib.ListN.{length, get_or, drop}
use lib.Seq.{drop-cons}
use Rattle.lists.specs.Parts.{put}
use Rattle.lists.specs.Below.{all_below, Below}
use Rattle.symbol.specs.Sum.{Sum, symbol_at, total_from, total}
use Rattle.symbol.specs.Group.{AbelianGroup}
use Rattle.short_scheme.specs.Short.{all_zero, named, strided_answer}
use Rattle.short_scheme.specs.Rows.{RowStored}
use Rattle.short_rows.specs.Steps.{gathered, begun_by}
use Rattle.short_scheme.proofs.Named.{symbol-whole, stored-first, stored-rest}
use Rattle.short_scheme.proofs.ZeroRow.{answer-some}

module _ (sum : Sum) (stride S : ℕ) (store : List ℕ) where
  -- digit 0 leaves all as it was
  pub gather_none : (at d : ℕ) (begun : Bool) (out : List ℕ) → d ≡ 0
      → (begun ≡ begun_by begun d) × (out ≡ gathered sum begun out (named at stride S store (d ∷ [])))
  unfolding begun_by gathered named
  gather_none at zero begun out e = (refl, refl)
  gather_none at (suc d) begun out e = absurd (let w : ⊥ = omega arith in w)

  -- another digit's symbol is combined, or copied where none was before
  pub gather-one : (at d : ℕ) (begun : Bool) (out : List ℕ) → 0 < d
      → (true ≡ begun_by begun d)
      × (cond begun (sum.plus out (symbol_at S store (at + (d - 1)))) (symbol_at S store (at + (d - 1)))
      ≡ gathered sum begun out (named at stride S store (d ∷ [])))
  unfolding begun_by gathered named total_from
  gather-one at zero begun out h = absurd (not-suc-le-zero h)
  gather-one at (suc d) true out h = (refl, ap (λ (j : ℕ). sum.plus out (symbol_at S store (at + j))) (sub-one (suc d)))
  gather-one at (suc d) false out h = (refl, ap (λ (j : ℕ). symbol_at S store (at + j)) (sub-one (suc d)))

  goes_on_lem : (out : List ℕ) (symbols : List (List ℕ)) → gathered sum true out symbols ≡ total_from sum out symbols
  unfolding gathered total_from
  goes_on_lem out [] = refl
  goes_on_lem out (x ∷ symbols) = refl

  turn : (at d : ℕ) (row : List ℕ) (begun : Bool) (out : List ℕ)
      → gathered sum (begun_by begun d) (gathered sum begun out (named at 0 S store (d ∷ []))) (named (at + stride) stride S store row)
      ≡ gathered sum begun out (named at stride S store (d ∷ row))
  unfolding begun_by gathered named total_from
  turn at zero row begun out = refl
  turn at (suc d) row true out = goes_on_lem (sum.plus out (symbol_at S store (at + d))) (named (at + stride) stride S store row)
  turn at (suc d) row false out = goes_on_lem (symbol_at S store (at + d)) (named (at + stride) stride S store row)

  -- a turn of the loop: one digit more is gathered, and the digits left give the whole as before
  pub gather-more : (first p : ℕ) (row : List ℕ) (begun : Bool) (out : List ℕ) {begun' : Bool} {out' whole : List ℕ} → p < length row
      → begun' ≡ begun_by begun (get_or row p 0) → out' ≡ gathered sum begun out (named (first + p * stride) 0 S store (get_or row p 0 ∷ []))
      → gathered sum begun out (named (first + p * stride) stride S store (drop p row)) ≡ whole
      → gathered sum begun' out' (named (first + (p + 1) * stride) stride S store (drop (p + 1) row)) ≡ whole
  gather-more first p row begun out h b o e =
      let at = first + p * stride in
      let next : first + suc p * stride ≡ at + stride = omega (arith, suc-mul p stride) in
      ap₂ (λ (t : Bool) (l : List ℕ). gathered sum t l (named (first + (p + 1) * stride) stride S store (drop (p + 1) row))) b o
      ∙ ap (λ (n : ℕ). gathered sum (begun_by begun (get_or row p 0)) (gathered sum begun out (named at 0 S store (get_or row p 0 ∷ [])))
      (named (first + n * stride) stride S store (drop n row))) (add-one p)
      ∙ ap (λ (n : ℕ). gathered sum (begun_by begun (get_or row p 0)) (gathered sum begun out (named at 0 S store (get_or row p 0 ∷ [])))
      (named n stride S store (drop (suc p) row))) next
      ∙ turn at (get_or row p 0) (drop (suc p) row) begun out
      ∙ ap (λ (l : List ℕ). gathered sum begun out (named at stride S store l)) (sym (drop-cons row p 0 h))
      ∙ e

  module _ (group : AbelianGroup sum S) (bytes : Below 256 store) where
    -- what is gathered of a row that is not all zeros is the total
    gathered-total : (first : ℕ) (row out : List ℕ) → RowStored first stride S store row → all_zero row ≡ false
        → gathered sum false out (named first stride S store row) ≡ total sum S (named first stride S store row)
    unfolding gathered named total total_from all_below
    gathered-total first [] out r e = let z : ◌≡◌ {A = ℕ} 0 1 = cc in absurd (let w : ⊥ = omega arith in w)
    gathered-total first (zero ∷ row) out r e = gathered-total (first + stride) row out (stored-rest stride S store first 0 row r) e
    gathered-total first (suc d ∷ row) out r e =
        ap (λ (start : List ℕ). total_from sum start (named (first + stride) stride S store row))
        (sym (group.zero-plus (symbol-whole stride S store bytes first d (stored-first stride S store first (suc d) row r))))

    -- and so it is the answer, which is written from the start of the buffer on
    pub gathered-answer : (first : ℕ) (row start out : List ℕ) {last : List ℕ} → RowStored first stride S store row → all_zero row ≡ false
        → last ≡ gathered sum false start (named first stride S store row) → length last ≡ S
        → last ++ drop S out ≡ put 0 (strided_answer sum first stride S store row) out
    gathered-answer first row start out {last} r z e long =
        let made : last ≡ strided_answer sum first stride S store row =
        e ∙ gathered-total first row start r z ∙ sym (answer-some sum first stride S store row z) in
        ap (λ (n : ℕ). last ++ drop n out) (sym long) ∙ ap (λ (l : List ℕ). put 0 l out) made
