-- What a query of the round code asks for: a row for each block, none for the row of zeros (`round-asks`). A symbol is of one block, so at most one row
-- names it.
use mathlib.Core.Path.{◌≡◌, refl, sym, ap, ◌∙◌}
use mathlib.Core.List.{List, map, flat_map}
use Prim.Native.Nat.{ℕ, zero, suc, ◌+◌, ◌-◌, ◌*◌, ◌≤◌, ◌<◌}
use native.Mathlib.Nat.{mul_assoc, suc-mul, mul_comm}
use native.Mathlib.Decide.{dec_lt}
use native.Mathlib.Omega.{arith}
use lib.ListN.{length}
use Rattle.lists.specs.Below.{Below}
use Rattle.lists.specs.Ranges.{range}
use Rattle.lists.specs.Sums.{sum, All}
use Rattle.lists.proofs.Below.{all_below-below}
use Rattle.lists.proofs.Cuts.{slot-end, flat_map-lengths}
use Rattle.lists.proofs.Each.{All-flatMap, All-every}
use Rattle.lists.proofs.Joined.{flat_map-all, flat_map-flat_map}
use Rattle.lists.proofs.Ranges.{All-range}
use Rattle.lists.proofs.Sums.{sum-ext, sum-flat_map, sum-mul, sum-next}
use Rattle.parameters.specs.Bounds.{blocks}
use Rattle.parameters.specs.Measures.{round_sizes}
use Rattle.symbol.specs.Sum.{Sum, total}
use Rattle.short_scheme.specs.Rows.{DigitRow}
use Rattle.round_scheme.specs.Round.{row, row_length, length_before, row_answer, round_answer, round_scheme}
use Rattle.round_scheme.proofs.Queries.{admitted-rows}
use Rattle.scheme.specs.Asked.{Cell, cell_symbol, rows_total, rows_answer, times_in}
use Rattle.short_scheme.specs.Asked.{digit_rows}
use Rattle.round_scheme.specs.Asked.{block_rows}
use Rattle.scheme.specs.Asks.{CellIn, Asks}
use Rattle.short_scheme.proofs.Cells.{row-answered, row-length, rows_inside, rows-once, rows-block}

lengths-joined : {A : Type 0} (g : ℕ → List A) (xs : List ℕ) → length (flat_map g xs) ≡ sum (λ i. length (g i)) xs
lengths-joined g xs = flat_map-lengths g (λ i. length (g i)) (All-every (λ i. refl) xs)

module _ (N K : ℕ) where
  abbrev pub symbols : ℕ
  symbols = blocks N K * (N - 1)

  abbrev pub rows_in : List ℕ → ℕ → List (List Cell)
  rows_in query i = digit_rows (i * (N - 1)) (row K query i)

  round-answered : (by : Sum) (S : ℕ) (store query : List ℕ) → round_answer by N K S store query ≡ rows_answer by symbols S store (block_rows N K query)
  unfolding round_answer row_answer block_rows rows_total
  round-answered by S store query =
      flat_map-all (row_answer by N K S store query) (λ i. rows_answer by symbols S store (rows_in query i))
      (All-every (λ i. row-answered by symbols S store (i * (N - 1)) (row K query i)) (range 0 (blocks N K)))
      ∙ sym (flat_map-flat_map (λ cells. total by S (map (cell_symbol symbols S store) cells)) (rows_in query) (range 0 (blocks N K)))

  -- the answers to the rows of the first blocks
  pub first-length : (S : ℕ) (query : List ℕ) (count : ℕ) → length_before K S query count ≡ length (flat_map (rows_in query) (range 0 count)) * S
  unfolding length_before row_length
  first-length S query count =
      sum-ext (row_length K S query) (λ i. S * length (rows_in query i))
      (λ i. row-length S (i * (N - 1)) (row K query i) ∙ mul_comm (length (rows_in query i)) S) (range 0 count)
      ∙ sum-mul S (λ i. length (rows_in query i)) (range 0 count)
      ∙ ap (λ (n : ℕ). S * n) (sym (lengths-joined (rows_in query) (range 0 count)))
      ∙ mul_comm S (length (flat_map (rows_in query) (range 0 count)))

  round-length : (S : ℕ) (query : List ℕ) → length_before K S query (blocks N K) ≡ length (block_rows N K query) * S
  unfolding block_rows
  round-length S query = first-length S query (blocks N K)

  module _ (query : List ℕ) (rows : (i : ℕ) → i < blocks N K → DigitRow N K (row K query i)) where
    digits_low : (i : ℕ) → i < blocks N K → Below N (row K query i)
    digits_low i h = all_below-below N (row K query i) (rows i h).digits

    round-inside : All (All (CellIn K symbols)) (block_rows N K query)
    unfolding block_rows
    round-inside =
        All-flatMap (rows_in query) (All-range (blocks N K) (λ i h.
        rows_inside N K symbols (i * (N - 1)) (row K query i) (omega (arith, (rows i h).long)) (slot-end i (blocks N K) (N - 1) h) (digits_low i h)))

    -- the rows of the first blocks: none names a symbol of a later block
    module _ (wide : 0 < N) (p s : ℕ) where
      abbrev pub times : ℕ → ℕ
      times i = sum (times_in p s) (rows_in query i)

      one_less : suc (N - 1) ≡ N
      one_less = omega arith

      pub other_block : (i : ℕ) → i < blocks N K → ((d : ℕ) → d < N - 1 → s ≡ i * (N - 1) + d → ⊥) → times i ≡ 0
      other_block i h apart =
          rows-block (i * (N - 1)) p s (N - 1) (row K query i) (rw one_less (digits_low i h)) apart

      first-blocks : (n : ℕ) → n ≤ blocks N K → (sum times (range 0 n) ≤ 1) × (n * (N - 1) ≤ s → sum times (range 0 n) ≡ 0)
      unfolding sum range
      first-blocks zero h = (omega arith, λ l. refl)
      first-blocks (suc n) h = go (dec_lt s (n * (N - 1))) (first-blocks n (omega arith))
        where
          go : Dec (s < n * (N - 1)) → (sum times (range 0 n) ≤ 1) × (n * (N - 1) ≤ s → sum times (range 0 n) ≡ 0)
              → (sum times (range 0 (suc n)) ≤ 1) × (suc n * (N - 1) ≤ s → sum times (range 0 (suc n)) ≡ 0)
          go (yes l) ih =
              let none : times n ≡ 0 = other_block n (omega arith) (λ d k e. let w : ⊥ = omega arith in w) in
              (omega (arith, sum-next times n, none, ih.0), λ m. absurd (let w : ⊥ = omega (arith, suc-mul n (N - 1)) in w))
          go (no l) ih =
              let before : sum times (range 0 n) ≡ 0 = ih.1 (omega arith) in (
                omega (arith, sum-next times n, before, rows-once (n * (N - 1)) p s (row K query n)),
                λ m.
                    let none : times n ≡ 0 = other_block n (omega arith) (λ d k e. let w : ⊥ = omega (arith, suc-mul n (N - 1)) in w) in
                    omega (arith, sum-next times n, before, none),
              )

      round-once : sum (times_in p s) (block_rows N K query) ≤ 1
      unfolding block_rows
      round-once =
          omega (arith, sum-flat_map (times_in p s) (rows_in query) (range 0 (blocks N K)), (first-blocks (blocks N K) (omega arith)).0)

pub round-asks : (by : Sum) (N K S : ℕ) → 0 < N → Asks by K S (round_scheme by N K S) (block_rows N K)
unfolding round_sizes
round-asks by N K S wide = record {
  store-whole = ap (λ (n : ℕ). K * n) (sym (mul_assoc (blocks N K) (N - 1) S)) ∙ sym (mul_assoc K (blocks N K * (N - 1)) S);
  answers = round-answered N K by S;
  lengths = round-length N K S;
  inside = λ server query a. round-inside N K query (admitted-rows N K server query a);
  once = λ server query a p i h. round-once N K query (admitted-rows N K server query a) wide p i;
}
