-- The rows that are left decide where a symbol is named, row by row (`row_next`) and set by set (`set_next`).
use mathlib.Core.Path.{◌≡◌, refl, sym, ap, ap₂, ◌∙◌}
use mathlib.Core.Bool.{Bool, true, false, not, cond}
use mathlib.Core.List.{List, [], ◌∷◌, ◌++◌, map, append-nil, zip, zip_with}
use Prim.Native.Nat.{ℕ, zero, suc, ◌+◌, ◌-◌, ◌*◌, ◌/◌, ◌%◌, ◌^◌, ◌<◌}
use native.Mathlib.Nat.{zero-mul, suc-mul, add-mul}
use native.Mathlib.Numerals.{add-one}
use native.Mathlib.Omega.{arith}
use borrow.Author.Tests.{eq-eqb, ne_eqb}
use lib.Count.{ones as count}
use lib.ListN.{length, get_or, take, drop, replicate, length-append, length-map, length-replicate}
use lib.Seq.{drop-cons, drop-drop, take-append_seam}
use Rattle.lists.specs.Padded.{padded}
use Rattle.lists.specs.Sums.{bit, sum}
use Rattle.even_places.specs.Rule.{byte_of, ones_in, members, all_sets, layout}
use Rattle.even_sets.specs.Sets.{LayoutBounds, set_in, rows_of}
use Rattle.even_sets.proofs.Blocks.{all-bytes}
use Rattle.even_sets.proofs.SetBytes.{byte_at}
use Rattle.even_layout.proofs.Bytes.{members_from, members_kept}
use Rattle.even_layout.proofs.Tables.{positions_from}
use Rattle.even_layout.proofs.RowRuns.{rows_from, rows_more, numbers_more}
use Rattle.std.specs.Prelude.{Option, Some}
use Rattle.scheme.specs.Asked.{Cell, is_cell, times_in, named_in, later, place_naming}
use Rattle.even_scheme.specs.Asked.{set_rows}
use Rattle.even_scheme.proofs.Asks.{sets-many}
use Rattle.scheme.proofs.Places.{or_later, placed-join}

-- one cell more
pub cell-next : (m y K p rest taken : ℕ) (numbers : List ℕ) → p < K → rest % 2 ≡ 1 → taken < length numbers
    → times_in m y (zip (members_from K p rest) (drop taken numbers))
    ≡ bit (is_cell m y (p, get_or numbers taken 0)) + times_in m y (zip (members_from K (p + 1) (rest / 2)) (drop (taken + 1) numbers))
unfolding times_in sum zip zip_with
cell-next m y K p rest taken numbers h odd inside =
    ap₂ (λ (ps l : List ℕ). times_in m y (zip ps l)) (members_kept K p rest h odd) (drop-cons numbers taken 0 inside)
    ∙ ap (λ (n : ℕ). bit (is_cell m y (p, get_or numbers taken 0)) + times_in m y (zip (members_from K (p + 1) (rest / 2)) (drop n numbers))) (sym (add-one taken))

-- what a count says of a row
pub some-named : (m y : ℕ) (cells : List Cell) (rest : ℕ) → times_in m y cells ≡ 1 + rest → true ≡ named_in m y cells
some-named m y cells rest e = sym (ap not (ne_eqb (times_in m y cells) 0 (λ z. let w : ⊥ = omega (arith, e, z) in w)))

pub none_named : (m y : ℕ) (cells : List Cell) → times_in m y cells ≡ 0 → false ≡ named_in m y cells
none_named m y cells e = sym (ap not (eq-eqb (times_in m y cells) 0 e))

pub no_cells : (m y : ℕ) (numbers : List ℕ) → times_in m y (zip [] numbers) ≡ 0
unfolding times_in sum zip zip_with
no_cells m y numbers = refl

-- one row more
pub row_next : (S p i : ℕ) (A : List Bool) (rows row size : ℕ) (numbers : List ℕ) → row < rows → ones_in A ≡ size
    → place_naming S p i (set_rows (replicate (rows - row) A) (drop (row * size) numbers))
    ≡ cond (named_in p i (zip (members 0 A) (drop (row * size) numbers))) (Some 0)
    (later S (place_naming S p i (set_rows (replicate (rows - (row + 1)) A) (drop ((row + 1) * size) numbers))))
unfolding place_naming set_rows
row_next S p i A rows row size numbers h e =
    let many : rows - row ≡ suc (rows - (row + 1)) = omega arith in
    let next : row * size + ones_in A ≡ (row + 1) * size = omega (arith, e, suc-mul row size, ap (λ (n : ℕ). n * size) (add-one row)) in
    ap (λ (n : ℕ). place_naming S p i (set_rows (replicate n A) (drop (row * size) numbers))) many
    ∙ ap (λ (l : List ℕ). cond (named_in p i (zip (members 0 A) (drop (row * size) numbers))) (Some 0)
    (later S (place_naming S p i (set_rows (replicate (rows - (row + 1)) A) l))))
    (drop-drop (ones_in A) (row * size) numbers ∙ ap (λ (n : ℕ). drop n numbers) next)

-- the rows of a set, and those after them
rows_apart : (A : List Bool) (n : ℕ) (more : List (List Bool)) (numbers : List ℕ)
    → set_rows (replicate n A ++ more) numbers ≡ set_rows (replicate n A) numbers ++ set_rows more (drop (n * ones_in A) numbers)
unfolding set_rows
rows_apart A zero more numbers = ap (λ (m : ℕ). set_rows more (drop m numbers)) (sym (zero-mul (ones_in A)))
rows_apart A (suc n) more numbers =
    let rest = drop (ones_in A) numbers in
    let next : ones_in A + n * ones_in A ≡ suc n * ones_in A = omega (arith, suc-mul n (ones_in A)) in
    ap (λ (l : List (List Cell)). zip (members 0 A) numbers ∷ l)
    (rows_apart A n more rest
    ∙ ap (λ (l : List ℕ). set_rows (replicate n A) rest ++ set_rows more l)
    (drop-drop (n * ones_in A) (ones_in A) numbers ∙ ap (λ (m : ℕ). drop m numbers) next))

pub rows_left : (N K i : ℕ) → i < length (all_sets K) → length (rows_from N K i) ≡ rows_of N (get_or (all_sets K) i []) + length (rows_from N K (i + 1))
rows_left N K i h =
    let A = get_or (all_sets K) i [] in
    ap length (rows_more N K i h) ∙ length-append (replicate (rows_of N A) A) (rows_from N K (i + 1))
    ∙ ap (λ (n : ℕ). n + length (rows_from N K (i + 1))) (length-replicate (rows_of N A) A)

-- one set more
pub set_next : (S p y N K i at rows : ℕ) (B : List Bool) (query : List ℕ) → i < length (all_sets K) → B ≡ get_or (all_sets K) i []
    → rows ≡ rows_of N (get_or (all_sets K) i [])
    → place_naming S p y (set_rows (rows_from N K i) (drop at query))
    ≡ or_later (rows * S) (place_naming S p y (set_rows (replicate rows B) (drop at query)))
    (place_naming S p y (set_rows (rows_from N K (i + 1)) (drop (at + rows * ones_in B) query)))
set_next S p y N K i at rows B query h same many =
    let first = set_rows (replicate rows B) (drop at query) in
    let split : rows_from N K i ≡ replicate rows B ++ rows_from N K (i + 1) =
    rows_more N K i h ∙ ap₂ (λ (n : ℕ) (A : List Bool). replicate n A ++ rows_from N K (i + 1)) (sym many) (sym same) in
    ap (λ (L : List (List Bool)). place_naming S p y (set_rows L (drop at query))) split
    ∙ ap (place_naming S p y) (rows_apart B rows (rows_from N K (i + 1)) (drop at query))
    ∙ placed-join S p y first (set_rows (rows_from N K (i + 1)) (drop (rows * ones_in B) (drop at query)))
    ∙ ap₂ (λ (n : ℕ) (l : List ℕ). or_later (n * S) (place_naming S p y first) (place_naming S p y (set_rows (rows_from N K (i + 1)) l)))
    (sets-many (replicate rows B) (drop at query) ∙ length-replicate rows B)
    (drop-drop (rows * ones_in B) at query)

-- ---- One turn of the loop over the sets: set i, what it reads and where its rows are answered

pub record Turn (N K S : ℕ) (query : List ℕ) (i at end set rows : ℕ) : Type 0 where
  pub inside : i < length (all_sets K)
  pub decoded : set_in K set ≡ get_or (all_sets K) i []
  pub many : rows ≡ rows_of N (get_or (all_sets K) i [])
  pub ones-in : ones_in (set_in K set) ≡ count set
  pub small : set < 256
  pub read : at + rows * count set + length (positions_from N K (i + 1)) ≡ length query
  pub placed : end + rows * S + length (rows_from N K (i + 1)) * S ≡ length (layout N K) * S

-- what is gone over of the table
pub sets-taken : (K power : ℕ) (table : List ℕ) → power ≡ 2 ^ K → table ≡ padded 256 (map byte_of (all_sets K)) → take (power - 1) table ≡ map byte_of (all_sets K)
sets-taken K power table e made =
    let bytes = map byte_of (all_sets K) in
    ap₂ (λ (n : ℕ) (l : List ℕ). take n l) (sym (all-bytes K power e)) made ∙ take-append_seam bytes (replicate (256 - length bytes) 0)

pub sets-counted : (K power : ℕ) (table : List ℕ) → power ≡ 2 ^ K → table ≡ padded 256 (map byte_of (all_sets K))
    → length (take (power - 1) table) ≡ length (all_sets K)
sets-counted K power table e made = ap length (sets-taken K power table e made) ∙ length-map (all_sets K) byte_of

pub set-turn : (N K S : ℕ) (query table : List ℕ) (i at end rows : ℕ) → LayoutBounds N K → table ≡ map byte_of (all_sets K) → i < length (all_sets K)
    → rows ≡ (N - 1) ^ (count (get_or table i 0) - 1) → at + length (positions_from N K i) ≡ length query
    → end + length (rows_from N K i) * S ≡ length (layout N K) * S → Turn N K S query i at end (get_or table i 0) rows
set-turn N K S query table i at end rows bounds e h called read placed =
    let A = get_or (all_sets K) i [] in
    let b = byte_at N K i table [] bounds (e ∙ sym (append-nil (map byte_of (all_sets K)))) h in
    let many : rows ≡ rows_of N A = called ∙ b.rows in
    let taken : rows * count (get_or table i 0) ≡ rows_of N A * ones_in A = ap₂ (λ (x y : ℕ). x * y) many b.counted in
    let more : length (rows_from N K i) * S ≡ rows * S + length (rows_from N K (i + 1)) * S =
    ap (λ (n : ℕ). n * S) (rows_left N K i h ∙ ap (λ (n : ℕ). n + length (rows_from N K (i + 1))) (sym many))
    ∙ add-mul rows (length (rows_from N K (i + 1))) S in
    record {
      inside = h;
      decoded = b.decoded;
      many = many;
      ones-in = ap ones_in b.decoded ∙ sym b.counted;
      small = b.small;
      read = omega (arith, read, taken, numbers_more N K i h);
      placed = omega (arith, placed, more);
    }

-- after it: what the rows of set i tell, or those after them
pub set-decides : (N K S p y : ℕ) (query : List ℕ) (i at end set rows : ℕ) (whole told : Option ℕ) → Turn N K S query i at end set rows
    → whole ≡ later end (place_naming S p y (set_rows (rows_from N K i) (drop at query)))
    → place_naming S p y (set_rows (replicate rows (set_in K set)) (drop at query)) ≡ told
    → whole ≡ later end (or_later (rows * S) told (place_naming S p y (set_rows (rows_from N K (i + 1)) (drop (at + rows * count set) query))))
set-decides N K S p y query i at end set rows whole told turn e t =
    let next : ℕ → Option ℕ = λ n. place_naming S p y (set_rows (rows_from N K (i + 1)) (drop (at + rows * n) query)) in
    e
    ∙ ap (later end)
    (set_next S p y N K i at rows (set_in K set) query turn.inside turn.decoded turn.many
    ∙ ap₂ (λ (x : Option ℕ) (n : ℕ). or_later (rows * S) x (next n)) t turn.ones-in)
