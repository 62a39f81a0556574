-- From honest answers each row with the wanted message gives the symbol that its place of that message stands for (`recovered`): it is
-- the answer to that row, or what the answer to the row that it was joined from leaves of it.
use mathlib.Core.Path.{◌≡◌, refl, sym, ap, ap₂, ◌∙◌}
use mathlib.Core.Bool.{Bool, true, false, cond}
use mathlib.Core.List.{List, []}
use mathlib.Core.Option.{none, some}
use Prim.Native.Nat.{ℕ, ◌+◌, ◌-◌, ◌/◌, ◌%◌, ◌^◌, ◌<◌}
use native.Mathlib.Omega.{arith}
use borrow.Author.Tests.{eqb-true, eqb-false}
use lib.Dec.{eqb}
use lib.ListN.{length, get_or, set, length-map}
use Rattle.symbol.specs.Sum.{Sum}
use Rattle.scheme.specs.Scheme.{honest_answers}
use Rattle.even_places.specs.Rule.{ones_in, Row, others, is_some, layout, first_row}
use Rattle.even_places.proofs.RowNumbers.{set_rows, row_number_lem, row-set, row-some, WantedRow}
use Rattle.even_places.proofs.SetLaws.{set_of}
use Rattle.even_places.proofs.SourceRows.{source_row_lem}
use Rattle.even_scheme.specs.Even.{entry_at, symbol_of, answered_row, source_server, source_row, recovered_symbol, wanted_place, even_scheme}
use Rattle.even_scheme.proofs.HonestRows.{row_total, Retrieval, honest-row}
use Rattle.even_scheme.proofs.RowSymbols.{row_more, row-alone}

-- the place of the wanted message in a row
pub wanted-place : (sum : Sum) (N K S k : ℕ) → 1 < N → k < K → (n : ℕ) (A : List Bool) (i x : ℕ) → WantedRow N K k n A i
    → get_or (get_or (set_rows N K k n A) i []) k none ≡ some x → wanted_place sum N K S k n A i ≡ x
unfolding wanted_place
wanted-place sum N K S k wide known n A i x wanted e =
    rw ((row_number_lem N K k wide known n wanted.server-below A i wanted.set-good wanted.row_below).1, e)

module _ (sum : Sum) (N K S k : ℕ) (store key : List ℕ) (run : Retrieval sum N K S k store key) (n : ℕ) (A : List Bool) (i : ℕ)
    (wanted : WantedRow N K k n A i) where
  row : Row
  row = get_or (set_rows N K k n A) i []

  its-set : set_of row ≡ A
  unfolding row
  its-set = row-set N K k run.wide run.known n wanted.server-below A i wanted.set-good wanted.row_below

  long : length row ≡ K
  unfolding set_of
  long = sym (length-map row is_some) ∙ ap length its-set ∙ wanted.set-good.long

  place : (x : ℕ) × (get_or row k none ≡ some x)
  unfolding row
  place = row-some N K k run.wide run.known n wanted.server-below A i k wanted.set-good wanted.row_below wanted.in-set

  pub recovered : recovered_symbol sum N K S k (honest_answers (even_scheme sum N K S) N store k key) n A i
      ≡ symbol_of sum N K S store k (entry_at N K key k (wanted_place sum N K S k n A i))
  unfolding recovered_symbol source_server source_row row
  recovered =
      go (eqb (ones_in A) 1) refl
      ∙ ap (λ (x : ℕ). symbol_of sum N K S store k (entry_at N K key k x))
      (sym (wanted-place sum N K S k run.wide run.known n A i place.0 wanted place.1))
    where
      answers : List (List ℕ)
      answers = honest_answers (even_scheme sum N K S) N store k key

      m : ℕ
      m = get_or (others N n) (i / (N - 1) ^ (ones_in A - 2)) 0

      j : ℕ
      j = i % (N - 1) ^ (ones_in A - 2)

      here : answered_row sum N K S k answers n (first_row A (layout N K) + i) ≡ row_total sum N K S store key row
      here = honest-row sum N K S k store key run n wanted.server-below A i wanted.set-good wanted.row_below

      go : (t : Bool) → eqb (ones_in A) 1 ≡ t
          → cond t
          (answered_row sum N K S k answers n (first_row A (layout N K) + i))
          (sum.minus (answered_row sum N K S k answers n (first_row A (layout N K) + i))
          (answered_row sum N K S k answers m (first_row (set A k false) (layout N K) + j)))
          ≡ symbol_of sum N K S store k (entry_at N K key k place.0)
      go true e = here ∙ row-alone sum N K S k store key run row place.0 long place.1 (ap ones_in its-set ∙ eqb-true (ones_in A) 1 e)
      go false e =
          let many : 1 < ones_in A = omega (arith, eqb-false (ones_in A) 1 e, wanted.set-good.some) in
          let source = source_row_lem N K k run.wide run.known n wanted.server-below A i wanted.set-good wanted.in-set many wanted.row_below in
          let there = honest-row sum N K S k store key run m source.server-below (set A k false) j source.set-good source.row_below in
          ap₂ sum.minus here (there ∙ ap (row_total sum N K S store key) (sym source.without))
          ∙ row_more sum N K S k store key run row place.0 long place.1
