-- The positions of a query as made set by set (`set-positions`, `positions-more`), and room for them (`positions-room`).
use mathlib.Core.Path.{◌≡◌, sym, ap, ap₂, ◌∙◌}
use mathlib.Core.List.{List, [], ◌++◌, flat_map}
use mathlib.Core.Bool.{Bool}
use Prim.Native.Nat.{ℕ, suc, ◌+◌, ◌-◌, ◌*◌, ◌^◌, ◌≤◌, ◌<◌}
use native.Mathlib.Nat.{pow-suc, mul-le-mul}
use native.Mathlib.Numerals.{add-one}
use native.Mathlib.Omega.{arith}
use lib.Count.{ones as count}
use lib.ListN.{length, get_or, drop, replicate, drop_of_length-le}
use lib.Seq.{drop-cons}
use Rattle.lists.proofs.Joined.{flat_map-flat_map}
use Rattle.even_places.specs.Rule.{members, all_sets, positions}
use Rattle.even_places.proofs.AllSets.{layout-by-set}
use Rattle.even_places.proofs.Positions.{positions-length}
use Rattle.even_sets.specs.Sets.{LayoutBounds, set_in, rows_of}
use Rattle.even_sets.proofs.SetBytes.{SetByte}

-- the positions of the rows of a set, and of the sets from i on
unfoldable pub set_positions : ℕ → List Bool → List ℕ
set_positions N A = flat_map (members 0) (replicate (rows_of N A) A)

unfoldable pub positions_from : ℕ → ℕ → ℕ → List ℕ
positions_from N K i = flat_map (set_positions N) (drop i (all_sets K))

pub set-positions : (N K set rows : ℕ) (A : List Bool) → SetByte N K set A → rows ≡ (N - 1) ^ (count set - 1)
    → flat_map (members 0) (replicate rows (set_in K set)) ≡ set_positions N A
unfolding set_positions
set-positions N K set rows A s e = ap₂ (λ (n : ℕ) (B : List Bool). flat_map (members 0) (replicate n B)) (e ∙ s.rows) s.decoded

pub positions-all : (N K : ℕ) → positions_from N K 0 ≡ positions N K
unfolding positions_from set_positions positions rows_of
positions-all N K =
    sym (flat_map-flat_map (members 0) (λ A. replicate (rows_of N A) A) (all_sets K)) ∙ ap (flat_map (members 0)) (sym (layout-by-set N K))

pub positions-none : (N K i : ℕ) → length (all_sets K) ≤ i → positions_from N K i ≡ []
unfolding positions_from flat_map
positions-none N K i h = rw (drop_of_length-le (all_sets K) h)

pub positions-more : (N K i : ℕ) → i < length (all_sets K)
    → positions_from N K i ≡ set_positions N (get_or (all_sets K) i []) ++ positions_from N K (i + 1)
unfolding positions_from flat_map
positions-more N K i h = rw (add-one i, drop-cons (all_sets K) i [] h)

-- the positions of a query fit the table of them
pub positions-room : (N K : ℕ) → LayoutBounds N K → length (positions N K) ≤ 1024
positions-room N K bounds =
    let last : K ≡ suc (K - 1) = omega (arith, bounds.messages-low) in
    let whole : N ^ K ≡ N ^ (K - 1) * N = ap (λ (n : ℕ). N ^ n) last ∙ pow-suc N (K - 1) in
    let half : N ^ (K - 1) * 2 ≤ N ^ (K - 1) * N = mul-le-mul (let w : N ^ (K - 1) ≤ N ^ (K - 1) = omega arith in w) bounds.servers-low in
    let most : K * N ^ (K - 1) ≤ 8 * N ^ (K - 1) = mul-le-mul bounds.messages-high (let w : N ^ (K - 1) ≤ N ^ (K - 1) = omega arith in w) in
    omega (arith, positions-length N K (omega (arith, bounds.servers-low)) (omega (arith, bounds.messages-low)), bounds.symbols-high)
