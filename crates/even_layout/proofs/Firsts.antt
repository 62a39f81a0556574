-- The table of first rows: filled set by set, each set once, it holds at a set's byte the number of the set's first row
-- (`filled-firsts`, `first-rows-at`). Rests on the layout by sets (AllSets of even_places).
use mathlib.Core.Path.{◌≡◌, refl, sym, ap, ap₂, ◌∙◌}
use mathlib.Core.Logic.{◌≢◌}
use mathlib.Core.List.{List, [], ◌∷◌, ◌++◌, map, flat_map}
use mathlib.Core.Bool.{Bool, true, false, cond, ◌&&◌, false≢true}
use Prim.Native.Nat.{ℕ, zero, suc, ◌+◌, ◌*◌, ◌/◌, ◌%◌, ◌^◌, ◌≤◌, ◌<◌}
use native.Mathlib.Nat.{pow-zero, zero-add, add-zero, add_assoc, pow-suc, pow-le-pow_right, div-add-mod', div-lt_iff_lt-mul, mod-lt}
use native.Mathlib.Numerals.{add-one}
use native.Mathlib.Omega.{arith}
use borrow.Author.Tests.{ltb-true, ltb-false, lt-ltb}
use lib.Count.{ones}
use lib.Dec.{ltb}
use lib.ListN.{length, get_or, set, replicate, drop, length-set, length-replicate, get_or-replicate}
use lib.Seq.{drop-cons, ext_get_or, get_or-set_same, get_or-set_other}
use Rattle.lists.specs.Ranges.{range}
use Rattle.lists.specs.Sums.{bit, sum, All, all_nil, all_cons}
use Rattle.lists.proofs.Bits.{bit-of}
use Rattle.lists.proofs.Each.{All-both, All-imp}
use Rattle.lists.proofs.Sums.{sum-none}
use Rattle.lists.proofs.Mapped.{mapped-length, mapped_at}
use Rattle.even_places.specs.Rule.{byte_of, ones_in, all_sets, layout, alike, first_row}
use Rattle.even_places.proofs.SetLaws.{alike-eq, alike_self}
use Rattle.even_places.proofs.Bytes.{byte-ones, byte-below}
use Rattle.even_places.proofs.AllSets.{IsSet, all-sets, alike_all, layout-by-set}
use Rattle.even_places.proofs.SetRuns.{first-here, first-later}
use Rattle.even_sets.specs.Sets.{LayoutBounds, set_in, rows_of}
use Rattle.even_sets.proofs.SetBytes.{set-in, set_in-length, rows-low}
use Rattle.even_layout.specs.Layout.{first_row_of, first_rows}

-- the table with the first row of each set in turn, where the rows before these sets are `row` many
unfoldable pub filled : ℕ → ℕ → List (List Bool) → List ℕ → List ℕ
filled N row [] table = table
filled N row (A ∷ L) table = filled N (row + rows_of N A) L (set table (byte_of A) row)

pub filled_more : (N K row i : ℕ) (table : List ℕ) → i < length (all_sets K)
    → filled N row (drop i (all_sets K)) table
    ≡ filled N (row + rows_of N (get_or (all_sets K) i [])) (drop (i + 1) (all_sets K)) (set table (byte_of (get_or (all_sets K) i [])) row)
unfolding filled
filled_more N K row i table h = rw (add-one i, drop-cons (all_sets K) i [] h)

filled-length : (N row : ℕ) (L : List (List Bool)) (table : List ℕ) → length (filled N row L table) ≡ length table
unfolding filled
filled-length N row [] table = refl
filled-length N row (A ∷ L) table = filled-length N (row + rows_of N A) L (set table (byte_of A) row) ∙ length-set table (byte_of A) row

-- a byte of none of the sets
filled-other : (N x row : ℕ) {L : List (List Bool)} (table : List ℕ) → All (λ A. x ≢ byte_of A) L → get_or (filled N row L table) x 0 ≡ get_or table x 0
unfolding filled
filled-other N x row table all_nil = refl
filled-other N x row table (all_cons {x = A} {xs = L} d a) =
    filled-other N x (row + rows_of N A) (set table (byte_of A) row) a ∙ get_or-set_other table (byte_of A) x row 0 d

byte-apart : (K : ℕ) (X A : List Bool) → length X ≡ K → length A ≡ K → alike X A ≡ false → byte_of X ≢ byte_of A
byte-apart K X A e f d same =
    let one : X ≡ A = sym (set-in K X e) ∙ ap (set_in K) same ∙ set-in K A f in
    false≢true (sym d ∙ ap (alike X) (sym one) ∙ alike_self X)

-- the rows of sets in order
unfoldable rows_all : ℕ → List (List Bool) → List (List Bool)
rows_all N L = flat_map (λ A. replicate (rows_of N A) A) L

-- at the byte of a set that is among the sets once
filled_at : (N K row : ℕ) (X : List Bool) {L : List (List Bool)} (table : List ℕ) → LayoutBounds N K → length X ≡ K → 2 ^ K ≤ length table → All (IsSet K) L
    → sum (λ A. bit (alike X A)) L ≡ 1 → get_or (filled N row L table) (byte_of X) 0 ≡ row + first_row X (rows_all N L)
unfolding sum bit filled rows_all flat_map
filled_at N K row X table bounds e h all_nil one = absurd (let w : ⊥ = omega arith in w)
filled_at N K row X table bounds e h (all_cons {x = A} {xs = L} s a) one =
    go (alike X A) refl one (filled_at N K (row + rows_of N A) X (set table (byte_of A) row) bounds e (rw (length-set table (byte_of A) row) h) a)
  where
    inside : byte_of A < length table
    inside = omega (arith, rw s.long at (byte-below A))

    go : (t : Bool) → alike X A ≡ t → bit t + sum (λ B. bit (alike X B)) L ≡ 1
        → (sum (λ B. bit (alike X B)) L ≡ 1
        → get_or (filled N (row + rows_of N A) L (set table (byte_of A) row)) (byte_of X) 0 ≡ row + rows_of N A + first_row X (rows_all N L))
        → get_or (filled N (row + rows_of N A) L (set table (byte_of A) row)) (byte_of X) 0 ≡ row + first_row X (replicate (rows_of N A) A ++ rows_all N L)
    go true t once ih =
        let others : All (λ B. byte_of X ≢ byte_of B) L =
        All-imp (λ B b. byte-apart K X B e b.0.long b.1) (All-both a (sum-none (alike X) L (omega arith))) in
        filled-other N (byte_of X) (row + rows_of N A) (set table (byte_of A) row) others
        ∙ ap (λ (B : List Bool). get_or (set table (byte_of A) row) (byte_of B) 0) (alike-eq X A t)
        ∙ get_or-set_same table (byte_of A) row 0 inside
        ∙ sym (add-zero row)
        ∙ ap (λ (n : ℕ). row + n) (sym (first-here X A (rows_of N A) (rows_all N L) (rows-low N K bounds A s) t))
    go false t once ih =
        ih (omega arith) ∙ add_assoc row (rows_of N A) (first_row X (rows_all N L)) ∙ ap (λ (n : ℕ). row + n) (sym (first-later X A (rows_of N A) (rows_all N L) t))

-- ---- Bytes and sets

byte-set_in : (K x : ℕ) → x < 2 ^ K → byte_of (set_in K x) ≡ x
unfolding set_in byte_of
byte-set_in zero x h = omega (arith, pow-zero 2)
byte-set_in (suc K) x h =
    let half : x / 2 < 2 ^ K = (div-lt_iff_lt-mul {k = 2} (omega arith)).1 (rw (pow-suc 2 K) at h) in
    ap₂ (λ (a b : ℕ). a * 2 + b) (byte-set_in K (x / 2) half) (bit-of (x % 2) (mod-lt x (omega arith))) ∙ div-add-mod' x 2

byte-none : (A : List Bool) → ones_in A ≡ 0 → byte_of A ≡ 0
unfolding ones_in byte_of sum bit
byte-none [] e = refl
byte-none (true ∷ A) e = absurd (let w : ⊥ = omega arith in w)
byte-none (false ∷ A) e = omega (arith, byte-none A (let w : ones_in A ≡ 0 = omega arith in w))

ones-some : (A : List Bool) → 0 < byte_of A → 1 ≤ ones_in A
ones-some A h = go (ones_in A) refl
  where
    go : (n : ℕ) → ones_in A ≡ n → 1 ≤ n
    go zero e = absurd (let z : ⊥ = omega (arith, byte-none A e) in z)
    go (suc n) e = omega arith

byte-some : (A : List Bool) → 1 ≤ ones_in A → 0 < byte_of A
unfolding ones
byte-some A h = go (byte_of A) refl
  where
    go : (x : ℕ) → byte_of A ≡ x → 0 < x
    go zero e = absurd (let w : ones (byte_of A) ≡ 0 = ap ones e in let z : ⊥ = omega (arith, byte-ones A) in z)
    go (suc x) e = omega arith

-- ---- The table

layout-rows : (N K : ℕ) → rows_all N (all_sets K) ≡ layout N K
unfolding rows_all rows_of
layout-rows N K = sym (layout-by-set N K)

filled-entry : (N K size x : ℕ) → LayoutBounds N K → 2 ^ K ≤ size → x < size → get_or (filled N 0 (all_sets K) (replicate size 0)) x 0 ≡ first_row_of N K x
unfolding first_row_of
filled-entry N K size x bounds room h = go (ltb 0 x) (ltb x (2 ^ K)) refl refl
  where
    X : List Bool
    X = set_in K x

    none : All (λ A. x ≢ byte_of A) (all_sets K) → get_or (filled N 0 (all_sets K) (replicate size 0)) x 0 ≡ 0
    none a = filled-other N x 0 (replicate size 0) a ∙ get_or-replicate size x 0 0 h

    go : (t u : Bool) → ltb 0 x ≡ t → ltb x (2 ^ K) ≡ u → get_or (filled N 0 (all_sets K) (replicate size 0)) x 0 ≡ cond (t && u) (first_row X (layout N K)) 0
    go true true t u =
        let byte : byte_of X ≡ x = byte-set_in K x (ltb-true x (2 ^ K) u) in
        let some : 1 ≤ ones_in X = ones-some X (omega (arith, ltb-true 0 x t)) in
        ap (λ (y : ℕ). get_or (filled N 0 (all_sets K) (replicate size 0)) y 0) (sym byte)
        ∙ filled_at N K 0 X (replicate size 0) bounds (set_in-length K x) (rw (length-replicate {A = ℕ} size 0) room) (all-sets K)
        (alike_all K X (set_in-length K x) some)
        ∙ zero-add (first_row X (rows_all N (all_sets K))) ∙ ap (first_row X) (layout-rows N K)
    go true false t u = none (All-imp (λ A s same. omega (arith, ltb-false x (2 ^ K) u, rw s.long at (byte-below A))) (all-sets K))
    go false u t v = none (All-imp (λ A s same. omega (arith, ltb-false 0 x t, byte-some A s.some)) (all-sets K))

pub filled-firsts : (N K : ℕ) → LayoutBounds N K → filled N 0 (all_sets K) (replicate 256 0) ≡ first_rows N K
unfolding first_rows
filled-firsts N K bounds = whole 256 (pow-le-pow_right {n = 2} (omega arith) {j = 8} bounds.messages-high)
  where
    whole : (size : ℕ) → 2 ^ K ≤ size → filled N 0 (all_sets K) (replicate size 0) ≡ map (first_row_of N K) (range 0 size)
    whole size room =
        let table = filled N 0 (all_sets K) (replicate size 0) in
        let long : length table ≡ size = filled-length N 0 (all_sets K) (replicate size 0) ∙ length-replicate {A = ℕ} size 0 in
        ext_get_or 0 table (map (first_row_of N K) (range 0 size))
        (long ∙ sym (mapped-length (first_row_of N K) 0 size))
        (λ i h. filled-entry N K size i bounds room (omega arith) ∙ sym (mapped_at (first_row_of N K) 0 size i (omega arith)))

-- at the byte of a set stands the number of its first row
pub first-rows-at : (N K : ℕ) (A : List Bool) → K ≤ 8 → length A ≡ K → 1 ≤ ones_in A → get_or (first_rows N K) (byte_of A) 0 ≡ first_row A (layout N K)
unfolding first_rows first_row_of
first-rows-at N K A few e h =
    let below : byte_of A < 2 ^ K = rw e at (byte-below A) in
    let room : 2 ^ K ≤ 256 = pow-le-pow_right {n = 2} (omega arith) {j = 8} few in
    mapped_at (first_row_of N K) 0 256 (byte_of A) (omega arith)
    ∙ rw (lt-ltb 0 (byte_of A) (byte-some A h), lt-ltb (byte_of A) (2 ^ K) below, set-in K A e)
