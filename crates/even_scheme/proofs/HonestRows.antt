-- What the honest servers answer: for each row of the query the total of the symbols that its places name through the key
-- (`honest-row`). Rests on the sets of a query's rows, which the server knows.
use mathlib.Core.Path.{◌≡◌, refl, sym, ap, ◌∙◌}
use mathlib.Core.Bool.{Bool}
use mathlib.Core.List.{List, [], ◌∷◌, ◌++◌, map, map-append, flat_map, zip_with}
use mathlib.Core.Option.{none, some}
use Prim.Native.Nat.{ℕ, suc, ◌+◌, ◌-◌, ◌*◌, ◌^◌, ◌<◌}
use native.Mathlib.Nat.{one-le-pow}
use native.Mathlib.Omega.{arith}
use lib.ListN.{length, get_or, drop, length-map}
use lib.Seq.{drop_at}
use Rattle.lists.specs.Below.{Below}
use Rattle.lists.specs.Parts.{cut}
use Rattle.lists.specs.Sums.{All, all_nil, all_cons, sum}
use Rattle.lists.proofs.Cuts.{flat_map-cut}
use Rattle.lists.proofs.Mapped.{mapped_at}
use Rattle.lists.proofs.Each.{All-imp}
use Rattle.symbol.specs.Group.{AbelianGroup, Symbols}
use Rattle.symbol.specs.Sum.{Sum, total}
use Rattle.symbol.proofs.Totals.{total-symbol}
use Rattle.scheme.specs.Scheme.{Valid, honest_answers}
use Rattle.even_places.specs.Rule.{ones_in, members, Row, is_some, cells, rows, query_cells, layout, first_row}
use Rattle.even_places.proofs.Flat.{cells-messages, rows_long}
use Rattle.even_places.proofs.Joined.{same_layout}
use Rattle.even_places.proofs.RowNumbers.{set_rows, row_number_lem}
use Rattle.even_places.proofs.SetLaws.{set_of, cells-length}
use Rattle.even_places.proofs.AllSets.{IsSet}
use Rattle.even_scheme.specs.Even.{entry_at, even_query, symbol_of, row_answer, row_answers, even_answer, answered_row, even_scheme}
use Rattle.even_scheme.proofs.Symbols.{number-below, symbol-symbol}

module _ (sum : Sum) (N K S : ℕ) (store key : List ℕ) where
  -- the number that a cell names, and the symbol
  unfoldable pub cell_number : ℕ × ℕ → ℕ
  cell_number cell = entry_at N K key cell.0 cell.1

  unfoldable pub cell_symbol : ℕ × ℕ → List ℕ
  cell_symbol cell = symbol_of sum N K S store cell.0 (cell_number cell)

  -- the total of a row's symbols
  unfoldable pub row_total : Row → List ℕ
  row_total r = total sum S (map cell_symbol (cells 0 r))

  cells-named : (q : ℕ) (r : Row) (later : List ℕ)
      → zip_with (symbol_of sum N K S store) (members q (set_of r)) (map cell_number (cells q r) ++ later) ≡ map cell_symbol (cells q r)
  unfolding zip_with members set_of is_some cells cell_symbol
  cells-named q [] later = refl
  cells-named q (none ∷ r) later = cells-named (suc q) r later
  cells-named q (some x ∷ r) later = ap (λ (l : List (List ℕ)). cell_symbol (q, x) ∷ l) (cells-named (suc q) r later)

  -- the answer to the cells of rows is their totals, one after another
  rows-answered : (rs : List Row) → row_answers sum N K S store (map set_of rs) (map cell_number (flat_map (cells 0) rs)) ≡ flat_map row_total rs
  unfolding row_answers row_answer flat_map row_total
  rows-answered [] = refl
  rows-answered (r ∷ rs) =
      rw (map-append cell_number (cells 0 r) (flat_map (cells 0) rs), cells-named 0 r (map cell_number (flat_map (cells 0) rs)), rest)
      (ap (λ (l : List ℕ). row_total r ++ l) (rows-answered rs))
    where
      rest : drop (ones_in (set_of r)) (map cell_number (cells 0 r) ++ map cell_number (flat_map (cells 0) rs)) ≡ map cell_number (flat_map (cells 0) rs)
      rest = drop_at (map cell_number (cells 0 r)) (map cell_number (flat_map (cells 0) rs)) (ones_in (set_of r))
          (length-map (cells 0 r) cell_number ∙ cells-length 0 r)

  answer-rows : (k n : ℕ) → 1 < N → k < K → n < N → even_answer sum N K S store (even_query N K k n key) ≡ flat_map row_total (rows N K k n)
  unfolding even_answer even_query query_cells cell_number
  answer-rows k n wide known l =
      ap (λ (L : List (List Bool)). row_answers sum N K S store L (map cell_number (flat_map (cells 0) (rows N K k n)))) (sym (same_layout N K k wide known n l))
      ∙ rows-answered (rows N K k n)

-- ---- The honest answers of one retrieval

-- what is known of it: the wanted message k, the store and the key
pub record Retrieval (sum : Sum) (N K S k : ℕ) (store key : List ℕ) : Type 0 where
  pub group : AbelianGroup sum S
  pub wide : 1 < N
  pub known : k < K
  pub bytes : Below 256 store
  pub long : length store ≡ K * (N ^ K * S)
  pub valid : Valid (even_scheme sum N K S) key

module _ (sum : Sum) (N K S k : ℕ) (store key : List ℕ) (run : Retrieval sum N K S k store key) where
  -- the numbers of its queries name symbols
  pub number_small : (p place : ℕ) → p < K → entry_at N K key p place < N ^ K
  number_small p place h = number-below N K key p place run.valid.good h (one-le-pow K N (let w : 0 < N = omega (arith, run.wide) in w))

  cell-symbols : {cs : List (ℕ × ℕ)} → All (λ cell. cell.0 < K) cs → Symbols S (map (cell_symbol sum N K S store key) cs)
  unfolding cell_symbol cell_number
  cell-symbols all_nil = all_nil
  cell-symbols (all_cons {x = cell} h a) =
      all_cons
      (symbol-symbol sum N K S store run.long cell.0 (entry_at N K key cell.0 cell.1) h (number_small cell.0 cell.1 h) run.bytes)
      (cell-symbols a)

  pub row-symbols : (r : Row) → length r ≡ K → Symbols S (map (cell_symbol sum N K S store key) (cells 0 r))
  row-symbols r e = cell-symbols (All-imp (λ cell h. omega (arith, h)) (cells-messages r 0))

  -- row i of set A in server n's answer
  pub honest-row : (n : ℕ) → n < N → (A : List Bool) (i : ℕ) → IsSet K A → i < (N - 1) ^ (ones_in A - 1)
      → answered_row sum N K S k (honest_answers (even_scheme sum N K S) N store k key) n (first_row A (layout N K) + i)
      ≡ row_total sum N K S store key (get_or (set_rows N K k n A) i [])
  unfolding answered_row honest_answers row_total
  honest-row n l A i set-good h =
      ap (cut ((first_row A (layout N K) + i) * S) S)
      (mapped_at (λ m. even_answer sum N K S store (even_query N K k m key)) [] N n l ∙ answer-rows sum N K S store key k n run.wide run.known l)
      ∙ flat_map-cut (row_total sum N K S store key) S []
      (All-imp (λ r e. (total-symbol sum S run.group (row-symbols r e)).long) (rows_long N K k run.wide run.known n l))
      (first_row A (layout N K) + i) number.0
      ∙ ap (row_total sum N K S store key) number.1
    where
      number : (first_row A (layout N K) + i < length (rows N K k n)) × (get_or (rows N K k n) (first_row A (layout N K) + i) [] ≡ get_or (set_rows N K k n A) i [])
      number = row_number_lem N K k run.wide run.known n l A i set-good h
