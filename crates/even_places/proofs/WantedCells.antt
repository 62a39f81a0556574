-- Where the wanted message stands in a query (`wanted-cell`): in row i of set A its position is that of the set's first cell, and i
-- rows of A's messages, and A's messages before it. The cell there has the place that the row gives the wanted message.
use Prim.Native.Nat.{ℕ, zero, suc, ◌+◌, ◌-◌, ◌*◌, ◌^◌, ◌<◌}
use native.Mathlib.Nat.{zero-add, add-zero, suc-mul, mul-le-mul_right}
use native.Mathlib.Omega.{arith}
use mathlib.Core.Path.{◌≡◌, refl, sym, ap, ◌∙◌}
use mathlib.Core.List.{List, [], ◌∷◌, flat_map}
use mathlib.Core.Bool.{Bool, true, false, false≢true}
use mathlib.Core.Option.{none, some}
use lib.ListN.{length, get_or, take}
use Rattle.lists.specs.Sums.{bit, sum, All}
use Rattle.lists.proofs.Each.{All-get, All-imp, All-every, All-keep}
use Rattle.lists.proofs.Joined.{flat_map-flat_map, PlacedAt, placed_at, flat_map-size, flat_map-at}
use Rattle.even_places.specs.Rule.{has, ones_in, Row, is_some, same, of_set, cells, rows, query_cells, all_sets, layout, first_row}
use Rattle.even_places.specs.Counting.{block}
use Rattle.even_places.proofs.SetLaws.{set_of, same_alike, alike-eq, cells-length}
use Rattle.even_places.proofs.RowNumbers.{set_rows, rows-by-set, set_rows-length, row_number_lem, row-set}
use Rattle.even_places.proofs.AllSets.{IsSet, all-sets}

-- ---- In one row

ones-before : (A : List Bool) (p : ℕ) → has p A ≡ true → ones_in (take p A) < ones_in A
unfolding ones_in sum bit has
ones-before [] p e = absurd (false≢true e)
ones-before (true ∷ A) zero e = omega arith
ones-before (false ∷ A) zero e = absurd (false≢true e)
ones-before (a ∷ A) (suc p) e = omega (arith, ones-before A p e)

-- message p's cell comes after those of the messages before it
record CellOf (q : ℕ) (r : Row) (p : ℕ) (cell : ℕ × ℕ) : Type 0 where
  its-message : cell.0 ≡ q + p
  its-place : get_or r p none ≡ some cell.1

cell-of : (q : ℕ) (r : Row) (p : ℕ) → has p (set_of r) ≡ true → CellOf q r p (get_or (cells q r) (ones_in (take p (set_of r))) (0, 0))
unfolding cells set_of is_some ones_in sum bit has
cell-of q [] p e = absurd (false≢true e)
cell-of q (none ∷ r) zero e = absurd (false≢true e)
cell-of q (some x ∷ r) zero e = record { its-message = sym (add-zero q); its-place = refl }
cell-of q (none ∷ r) (suc p) e =
    let later = cell-of (suc q) r p e in
    rw (zero-add (ones_in (take p (set_of r)))) (record { its-message = later.its-message ∙ omega arith; its-place = later.its-place })
cell-of q (some x ∷ r) (suc p) e =
    let later = cell-of (suc q) r p e in
    rw (one_more (ones_in (take p (set_of r)))) (record { its-message = later.its-message ∙ omega arith; its-place = later.its-place })
  where
    one_more : (m : ℕ) → 1 + m ≡ suc m
    one_more m = omega arith

-- ---- In the whole query

-- how many cells of a query the rows of set A have
unfoldable pub cells_of : ℕ → List Bool → ℕ
cells_of N A = (N - 1) ^ (ones_in A - 1) * ones_in A

module _ (N K k : ℕ) (wide : 1 < N) (known : k < K) (n : ℕ) (l : n < N) where
  set_cells : List Bool → List (ℕ × ℕ)
  set_cells A = flat_map (cells 0) (set_rows N K k n A)

  cells-by-set : query_cells N K k n ≡ flat_map set_cells (all_sets K)
  unfolding query_cells set_cells
  cells-by-set = ap (flat_map (cells 0)) (rows-by-set N K k wide known n l) ∙ flat_map-flat_map (cells 0) (set_rows N K k n) (all_sets K)

  row-cells : (A : List Bool) → All (λ r. length (cells 0 r) ≡ ones_in A) (set_rows N K k n A)
  unfolding set_rows of_set
  row-cells A =
      All-imp (λ r h. cells-length 0 r ∙ ap ones_in (sym (alike-eq A (set_of r) (sym (same_alike A r) ∙ h.1))))
      (All-keep {P = λ (r : Row). r ≡ r} (same A) (All-every (λ (r : Row). refl) (block N K k (ones_in A - 1) n)))

  set-cells : (A : List Bool) → IsSet K A → length (set_cells A) ≡ cells_of N A
  unfolding set_cells cells_of
  set-cells A good = flat_map-size (cells 0) (ones_in A) (row-cells A) ∙ ap (λ (m : ℕ). m * ones_in A) (set_rows-length N K k wide known n l A good)

  -- position c of the query is the wanted message's in row i of set A
  pub record WantedCell (A : List Bool) (i c : ℕ) : Type 0 where
    pub inside : c < length (query_cells N K k n)
    pub its-message : (get_or (query_cells N K k n) c (0, 0)).0 ≡ k
    pub its-place : get_or (get_or (rows N K k n) (first_row A (layout N K) + i) []) k none ≡ some (get_or (query_cells N K k n) c (0, 0)).1

  pub wanted-cell : (j i : ℕ) → j < length (all_sets K) → has k (get_or (all_sets K) j []) ≡ true → i < (N - 1) ^ (ones_in (get_or (all_sets K) j []) - 1)
      → WantedCell (get_or (all_sets K) j []) i
      (sum (cells_of N) (take j (all_sets K)) + (i * ones_in (get_or (all_sets K) j []) + ones_in (take k (get_or (all_sets K) j []))))
  unfolding set_cells cells_of
  wanted-cell j i hj e hi =
      record {
        inside = rw cells-by-set placed.inside;
        its-message = ap (λ (cell : ℕ × ℕ). cell.0) at_row ∙ found.its-message ∙ zero-add k;
        its-place =
            ap (λ (r : Row). get_or r k none) (row_number_lem N K k wide known n l A i good hi).1 ∙ found.its-place
            ∙ ap (λ (cell : ℕ × ℕ). some cell.1) (sym at_row);
      }
    where
      A : List Bool
      A = get_or (all_sets K) j []

      good : IsSet K A
      good = All-get [] (all-sets K) j hj

      row : Row
      row = get_or (set_rows N K k n A) i []

      its-set : set_of row ≡ A
      its-set = row-set N K k wide known n l A i good hi

      within : i * ones_in A + ones_in (take k A) < (N - 1) ^ (ones_in A - 1) * ones_in A
      within = omega (arith, ones-before A k e, suc-mul i (ones_in A), mul-le-mul_right (ones_in A) hi)

      placed : PlacedAt set_cells (cells_of N) [] (0, 0) (all_sets K) j (i * ones_in A + ones_in (take k A))
      placed = placed_at set_cells (cells_of N) [] (0, 0) (All-imp set-cells (all-sets K)) j (i * ones_in A + ones_in (take k A)) hj within

      at_row : get_or (query_cells N K k n) (sum (cells_of N) (take j (all_sets K)) + (i * ones_in A + ones_in (take k A))) (0, 0)
          ≡ get_or (cells 0 row) (ones_in (take k (set_of row))) (0, 0)
      at_row =
          ap (λ (cs : List (ℕ × ℕ)). get_or cs (sum (cells_of N) (take j (all_sets K)) + (i * ones_in A + ones_in (take k A))) (0, 0)) cells-by-set
          ∙ placed.same
          ∙ flat_map-at (cells 0) (ones_in A) (0, 0) [] (row-cells A) i (ones_in (take k A)) (omega (arith, set_rows-length N K k wide known n l A good))
          (ones-before A k e)
          ∙ ap (λ (B : List Bool). get_or (cells 0 row) (ones_in (take k B)) (0, 0)) (sym its-set)

      found : CellOf 0 row k (get_or (cells 0 row) (ones_in (take k (set_of row))) (0, 0))
      found = cell-of 0 row k (ap (has k) its-set ∙ e)
