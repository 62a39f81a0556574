-- The rows of a query set by set: those of the sets from i on (`rows_from`), one set more (`rows_more`), and the numbers that they take of a query
-- (`numbers_more`, `numbers-all`).
use mathlib.Core.Path.{◌≡◌, sym, ap, ◌∙◌}
use mathlib.Core.Bool.{Bool}
use mathlib.Core.List.{List, [], ◌++◌, flat_map}
use Prim.Native.Nat.{ℕ, zero, suc, ◌+◌, ◌-◌, ◌*◌, ◌^◌, ◌≤◌, ◌<◌}
use native.Mathlib.Nat.{zero-mul, suc-mul}
use native.Mathlib.Numerals.{add-one}
use native.Mathlib.Omega.{arith}
use lib.ListN.{length, get_or, drop, replicate, length-append, drop_of_length-le}
use lib.Seq.{drop-cons}
use Rattle.even_places.specs.Rule.{ones_in, members, all_sets, layout}
use Rattle.even_places.proofs.Positions.{members-length, positions-length}
use Rattle.even_places.proofs.AllSets.{layout-by-set}
use Rattle.even_sets.specs.Sets.{LayoutBounds, rows_of}
use Rattle.even_layout.proofs.Tables.{set_positions, positions_from, positions-all, positions-more}

-- the rows of the sets from i on
unfoldable pub rows_from : ℕ → ℕ → ℕ → List (List Bool)
rows_from N K i = flat_map (λ A. replicate (rows_of N A) A) (drop i (all_sets K))

pub rows_all_lem : (N K : ℕ) → rows_from N K 0 ≡ layout N K
unfolding rows_from rows_of
rows_all_lem N K = sym (layout-by-set N K)

pub rows_none : (N K i : ℕ) → length (all_sets K) ≤ i → rows_from N K i ≡ []
unfolding rows_from flat_map
rows_none N K i h = rw (drop_of_length-le (all_sets K) h)

pub rows_more : (N K i : ℕ) → i < length (all_sets K)
    → rows_from N K i ≡ replicate (rows_of N (get_or (all_sets K) i [])) (get_or (all_sets K) i []) ++ rows_from N K (i + 1)
unfolding rows_from flat_map
rows_more N K i h = rw (add-one i, drop-cons (all_sets K) i [] h)

-- the rows of a set take a number for each of its messages
positions-rows : (A : List Bool) (n : ℕ) → length (flat_map (members 0) (replicate n A)) ≡ n * ones_in A
unfolding flat_map
positions-rows A zero = sym (zero-mul (ones_in A))
positions-rows A (suc n) =
    omega (arith, length-append (members 0 A) (flat_map (members 0) (replicate n A)), members-length 0 A, positions-rows A n, suc-mul n (ones_in A))

pub numbers_more : (N K i : ℕ) → i < length (all_sets K)
    → length (positions_from N K i) ≡ rows_of N (get_or (all_sets K) i []) * ones_in (get_or (all_sets K) i []) + length (positions_from N K (i + 1))
unfolding set_positions
numbers_more N K i h =
    let A = get_or (all_sets K) i [] in
    ap length (positions-more N K i h) ∙ length-append (set_positions N A) (positions_from N K (i + 1))
    ∙ ap (λ (n : ℕ). n + length (positions_from N K (i + 1))) (positions-rows A (rows_of N A))

pub numbers-all : (N K : ℕ) → LayoutBounds N K → length (positions_from N K 0) ≡ K * N ^ (K - 1)
numbers-all N K bounds = ap length (positions-all N K) ∙ positions-length N K bounds.servers-low bounds.messages-low
