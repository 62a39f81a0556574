-- What a query of the even code asks for: a row for each set of the layout (`even-asks`). That no symbol is named twice is what admission says.
use mathlib.Core.Path.{◌≡◌, refl, sym, ap, ap₂, ◌∙◌}
use mathlib.Core.Bool.{Bool, true, false, cond, ◌&&◌}
use mathlib.Core.List.{List, [], ◌∷◌, ◌++◌, map, flat_map, zip, zip_with}
use Prim.Native.Nat.{ℕ, suc, ◌+◌, ◌-◌, ◌*◌, ◌^◌, ◌≤◌, ◌<◌}
use native.Mathlib.Nat.{mul_assoc}
use native.Mathlib.Omega.{arith}
use lib.Dec.{eqb}
use lib.ListN.{length, drop}
use Rattle.lists.specs.Below.{Below}
use Rattle.lists.specs.Pairs.{under}
use Rattle.lists.specs.Sums.{bit, keep, sum, All, all_nil, all_cons}
use Rattle.lists.proofs.Below.{below-drop}
use Rattle.lists.proofs.Bits.{bit-small}
use Rattle.lists.proofs.Distinct.{times, stands-times}
use Rattle.lists.specs.Distinct.{stands}
use Rattle.lists.proofs.Pairs.{under-cons, zip-append}
use Rattle.lists.proofs.Sums.{sum-append}
use Rattle.parameters.specs.Measures.{even_sizes}
use Rattle.symbol.specs.Sum.{Sum, total}
use Rattle.even_places.specs.Rule.{ones_in, members, layout, positions}
use Rattle.even_places.proofs.AllSets.{layout-long}
use Rattle.even_places.proofs.Positions.{members-below, members-length}
use Rattle.even_scheme.specs.Even.{numbers_of, symbol_of, row_answer, row_answers, even_admits, even_answer, even_scheme}
use Rattle.even_scheme.proofs.Answers.{layout-length}
use Rattle.even_scheme.proofs.Reach.{admitted}
use Rattle.scheme.specs.Asked.{Cell, cell_symbol, rows_total, rows_answer, is_cell, times_in}
use Rattle.even_scheme.specs.Asked.{set_rows, layout_rows}
use Rattle.scheme.specs.Asks.{CellIn, Asks}

module _ (by : Sum) (N K S : ℕ) (store : List ℕ) where
  cells-named : (ps query : List ℕ) → zip_with (symbol_of by N K S store) ps query ≡ map (cell_symbol (N ^ K) S store) (zip ps query)
  unfolding zip zip_with symbol_of
  cells-named [] query = refl
  cells-named (p ∷ ps) [] = refl
  cells-named (p ∷ ps) (i ∷ query) = ap (λ (xs : List (List ℕ)). cell_symbol (N ^ K) S store (p, i) ∷ xs) (cells-named ps query)

  sets-answered : (sets : List (List Bool)) (query : List ℕ) → row_answers by N K S store sets query ≡ rows_answer by (N ^ K) S store (set_rows sets query)
  unfolding row_answers row_answer rows_total flat_map set_rows
  sets-answered [] query = refl
  sets-answered (A ∷ sets) query =
      ap₂ (λ (x y : List ℕ). x ++ y) (ap (total by S) (cells-named (members 0 A) query)) (sets-answered sets (drop (ones_in A) query))

  even-answered : (query : List ℕ) → even_answer by N K S store query ≡ rows_answer by (N ^ K) S store (layout_rows N K query)
  unfolding even_answer
  even-answered query = sets-answered (layout N K) query

pub sets-many : (sets : List (List Bool)) (query : List ℕ) → length (set_rows sets query) ≡ length sets
unfolding set_rows
sets-many [] query = refl
sets-many (A ∷ sets) query = ap suc (sets-many sets (drop (ones_in A) query))

-- ---- Inside the messages

module _ (K symbols : ℕ) where
  zip-inside : {ps : List ℕ} → All (λ p. p < K) ps → (query : List ℕ) → Below symbols query → All (CellIn K symbols) (zip ps query)
  unfolding zip zip_with
  zip-inside all_nil query b = all_nil
  zip-inside (all_cons h a) [] b = all_nil
  zip-inside (all_cons h a) (i ∷ query) b =
      all_cons (record { message = h; symbol = b 0 (omega arith) }) (zip-inside a query (λ j l. b (suc j) (omega arith)))

  sets-inside : {sets : List (List Bool)} → All (λ A. length A ≡ K) sets → (query : List ℕ) → Below symbols query
      → All (All (CellIn K symbols)) (set_rows sets query)
  unfolding set_rows
  sets-inside all_nil query b = all_nil
  sets-inside (all_cons {x = A} {xs = sets} h a) query b =
      all_cons (zip-inside (members-below K 0 A (omega arith)) query b) (sets-inside a (drop (ones_in A) query) (below-drop symbols (ones_in A) query b))

-- ---- How often a symbol is named

module _ (p i : ℕ) where
  -- the rows' cells one after another are the query's numbers with the messages that they are of
  sets-times : (sets : List (List Bool)) (query : List ℕ) → sum (times_in p i) (set_rows sets query) ≡ times_in p i (zip (flat_map (members 0) sets) query)
  unfolding set_rows sum times_in flat_map zip zip_with
  sets-times [] query = refl
  sets-times (A ∷ sets) query =
      let rest = drop (length (members 0 A)) query in
      let one : Cell → ℕ = λ cell. bit (is_cell p i cell) in
      let ih : sum (times_in p i) (set_rows sets (drop (ones_in A) query)) ≡ times_in p i (zip (flat_map (members 0) sets) rest) =
      sets-times sets (drop (ones_in A) query) ∙ ap (λ (n : ℕ). times_in p i (zip (flat_map (members 0) sets) (drop n query))) (sym (members-length 0 A)) in
      ap (λ (n : ℕ). times_in p i (zip (members 0 A) query) + n) ih
      ∙ sym (sum-append one (zip (members 0 A) query) (zip (flat_map (members 0) sets) rest))
      ∙ ap (sum one) (sym (zip-append (members 0 A) (flat_map (members 0) sets) query))

  times-under : (cells : List Cell) → times_in p i cells ≡ times i (under p cells)
  unfolding times_in times sum under keep bit
  times-under [] = refl
  times-under ((q, k) ∷ cells) = go (eqb q p) (times-under cells) ∙ sym (ap (times i) (under-cons p q k cells))
    where
      go : (t : Bool) → times_in p i cells ≡ times i (under p cells)
          → bit (t && eqb k i) + times_in p i cells ≡ times i (cond t (k ∷ under p cells) (under p cells))
      go true ih = omega (arith, ih)
      go false ih = omega (arith, ih)

even-once : (N K server : ℕ) (query : List ℕ) → even_admits N K server query ≡ true → (p i : ℕ) → p < K → sum (times_in p i) (layout_rows N K query) ≤ 1
unfolding numbers_of positions
even-once N K server query a p i h =
    omega (
      arith,
      sets-times p i (layout N K) query,
      times-under p i (zip (positions N K) query),
      stands-times i (numbers_of N K p query) ((admitted N K server query a).apart p h),
      bit-small (stands i (numbers_of N K p query)),
    )

pub even-asks : (by : Sum) (N K S : ℕ) → 1 < N → 0 < K → Asks by K S (even_scheme by N K S) (layout_rows N K)
unfolding even_sizes
even-asks by N K S wide some = record {
  store-whole = sym (mul_assoc K (N ^ K) S);
  answers = even-answered by N K S;
  lengths = λ query. ap (λ (n : ℕ). n * S) (sym (sets-many (layout N K) query ∙ layout-length N K wide some));
  inside = λ server query a. sets-inside K (N ^ K) (layout-long N K) query (admitted N K server query a).low;
  once = λ server query a p i h. even-once N K server query a p i h;
}
