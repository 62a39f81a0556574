-- One turn of each loop of the answering end: what it reads, what it writes, and what is left after it: `symbol-turn`, `row_done`,
-- `set-turn`.
use mathlib.Core.Path.{◌≡◌, refl, sym, ap, ap₂, ◌∙◌}
use mathlib.Core.Bool.{Bool}
use mathlib.Core.List.{List, [], ◌++◌}
use Prim.Native.Nat.{ℕ, suc, ◌+◌, ◌-◌, ◌*◌, ◌/◌, ◌%◌, ◌^◌, ◌≤◌, ◌<◌}
use native.Mathlib.Nat.{suc-mul}
use native.Mathlib.Numerals.{add-one}
use native.Mathlib.Omega.{arith}
use lib.Count.{ones as count}
use lib.ListN.{length, get_or, drop, replicate, length-append, length-drop}
use Rattle.lists.specs.Below.{Below}
use Rattle.lists.specs.Parts.{put}
use Rattle.lists.proofs.Below.{below-drop}
use Rattle.lists.proofs.Writing.{Pending, pending-part, pending-as}
use Rattle.symbol.specs.Sum.{Sum}
use Rattle.symbol.specs.Group.{KeepsLength, AbelianGroup}
use Rattle.even_places.specs.Rule.{ones_in, all_sets}
use Rattle.even_scheme.specs.Even.{row_answer, row_answers, even_answer}
use Rattle.even_sets.specs.Sets.{set_in, rows_of}
use Rattle.even_sets.proofs.SetBytes.{SetByte, set_in-length}
use Rattle.even_layout.proofs.Bytes.{members_from, members_kept}
use Rattle.even_layout.proofs.Tables.{positions_from}
use Rattle.even_answer.specs.Answering.{Answerable, SetAnswerable}
use Rattle.even_answer.proofs.RowLaws.{symbol-room, row_is, set_more}
use Rattle.even_layout.proofs.RowRuns.{rows_from, numbers_more}
use Rattle.even_answer.proofs.SetRows.{answers-more, set-length}

-- message p is in the set: its number is the next one, and names a symbol in the store
pub record SymbolTurn (N K S : ℕ) (store : List ℕ) (set : ℕ) (numbers : List ℕ) (symbols p taken rest : ℕ) : Type 0 where
  pub inside : taken < length numbers
  pub number : get_or numbers taken 0 < N ^ K
  pub room : (p * symbols + get_or numbers taken 0) * S + S ≤ length store
  pub left : taken + 1 + length (members_from K (p + 1) (rest / 2)) ≡ count set

pub symbol-turn : {N K S set symbols : ℕ} {store numbers : List ℕ} (p taken rest : ℕ) → SetAnswerable N K S store set 1 numbers → symbols ≡ N ^ K
    → p < K → rest % 2 ≡ 1 → taken + length (members_from K p rest) ≡ count set → SymbolTurn N K S store set numbers symbols p taken rest
symbol-turn {N} {K} {S} {set} {symbols} {store} {numbers} p taken rest given e h odd left =
    let kept : taken + suc (length (members_from K (p + 1) (rest / 2))) ≡ count set = rw (members_kept K p rest h odd) at left in
    let enough : taken < length numbers = omega (arith, given.enough) in
    let below = given.named taken enough in
    record {
      inside = enough;
      number = below;
      room = symbol-room N K S store given.whole symbols p (get_or numbers taken 0) e h below;
      left = omega arith;
    }

module _ {sum : Sum} {N K S set rows : ℕ} {store numbers : List ℕ} (group : AbelianGroup sum S) (given : SetAnswerable N K S store set rows numbers)
    (bytes : Below 256 store) where
  pub row-long : (row : ℕ) → length (row_answer sum N K S store (set_in K set) (drop (row * count set) numbers)) ≡ S
  row-long row =
      (row_is sum N K S store given.whole group bytes (set_in K set) (drop (row * count set) numbers) (set_in-length K set)
      (below-drop (N ^ K) (row * count set) numbers given.named)).long

  -- the row's answer written, those of the rows after it are left
  pub row_done : {all buffer out : List ℕ} (row : ℕ) → row < rows
      → Pending 0 all buffer (row * S) (row_answers sum N K S store (replicate (rows - row) (set_in K set)) (drop (row * count set) numbers)) out
      → Pending 0 all buffer ((row + 1) * S) (row_answers sum N K S store (replicate (rows - (row + 1)) (set_in K set)) (drop ((row + 1) * count set) numbers))
      (put (row * S) (row_answer sum N K S store (set_in K set) (drop (row * count set) numbers)) out)
  row_done row h p =
      let A = set_in K set in
      let front = row_answer sum N K S store A (drop (row * count set) numbers) in
      let left = row_answers sum N K S store (replicate (rows - (row + 1)) A) (drop ((row + 1) * count set) numbers) in
      let end : (row + 1) * S ≡ row * S + length front = ap (λ (m : ℕ). m * S) (add-one row) ∙ suc-mul row S
      ∙ ap (λ (m : ℕ). row * S + m) (sym (row-long row)) in
      pending-as end refl refl (pending-part front left (rw (set_more sum N K S store A numbers rows row (count set) h given.inside) at p))

-- the rows of the set at index i: their numbers, their part of the buffer, and what is left after them
pub record SetTurn (sum : Sum) (N K S : ℕ) (store query buffer : List ℕ) (i at end set rows : ℕ) (out : List ℕ) : Type 0 where
  pub given : SetAnswerable N K S store set rows (drop at query)
  pub small : set < 256
  pub read : at + rows * count set + length (positions_from N K (i + 1)) ≡ length query
  pub written : end + rows * S ≤ length out
  pub left : Pending 0 (even_answer sum N K S store query) buffer (end + rows * S)
      (row_answers sum N K S store (rows_from N K (i + 1)) (drop (at + rows * count set) query))
      (put end (row_answers sum N K S store (replicate rows (set_in K set)) (drop at query)) out)

pub set-turn : {sum : Sum} {N K S end set rows : ℕ} {store query buffer out : List ℕ} (i at : ℕ) → KeepsLength sum.plus S
    → Answerable N K S store query buffer → SetByte N K set (get_or (all_sets K) i []) → i < length (all_sets K)
    → rows ≡ (N - 1) ^ (count set - 1) → at + length (positions_from N K i) ≡ length query
    → Pending 0 (even_answer sum N K S store query) buffer end (row_answers sum N K S store (rows_from N K i) (drop at query)) out
    → SetTurn sum N K S store query buffer i at end set rows out
set-turn {sum} {N} {K} {S} {end} {set} {rows} {store} {query} {buffer} {out} i at keeps given b h called read p =
    let A = get_or (all_sets K) i [] in
    let many : rows ≡ rows_of N A = called ∙ b.rows in
    let taken : rows * count set ≡ rows_of N A * ones_in A = ap₂ (λ (x y : ℕ). x * y) many b.counted in
    let numbers = numbers_more N K i h in
    let below = below-drop (N ^ K) at query given.named in
    let front = row_answers sum N K S store (replicate rows (set_in K set)) (drop at query) in
    let left = row_answers sum N K S store (rows_from N K (i + 1)) (drop (at + rows * count set) query) in
    let long : length front ≡ rows * S =
    set-length sum N K S store keeps (set_in K set) rows (drop at query) given.whole (set_in-length K set) below in
    let same : row_answers sum N K S store (replicate (rows_of N A) A) (drop at query) ≡ front =
    sym (ap₂ (λ (m : ℕ) (B : List Bool). row_answers sum N K S store (replicate m B) (drop at query)) many b.decoded) in
    let q = pending-as refl (sym (answers-more sum N K S store i at (rows * count set) query h taken ∙ ap (λ (l : List ℕ). l ++ left) same)) refl p in
    record {
      given = record {
        fits = given.fits;
        whole = given.whole;
        named = below;
        some = b.some;
        inside = ap ones_in b.decoded ∙ sym b.counted;
        enough = omega (arith, length-drop at query);
      };
      small = b.small;
      read = omega arith;
      written = omega (arith, q.room, length-append front left);
      left = pending-as (ap (λ (m : ℕ). end + m) (sym long)) refl refl (pending-part front left q);
    }
