-- Single steps of the loops that write bytes: one of a set's members more (`members_kept`, `members-skipped`), and one row more
-- (`rows_more`).
use mathlib.Core.Path.{◌≡◌}
use mathlib.Core.List.{List, ◌∷◌, ◌++◌, flat_map}
use mathlib.Core.Bool.{Bool}
use Prim.Native.Nat.{ℕ, suc, ◌+◌, ◌-◌, ◌/◌, ◌%◌, ◌<◌}
use native.Mathlib.Numerals.{add-one}
use native.Mathlib.Omega.{arith}
use borrow.Author.Tests.{eq-eqb, ne_eqb}
use lib.ListN.{replicate}
use Rattle.even_places.specs.Rule.{members}
use Rattle.even_sets.specs.Sets.{set_in}

-- the members from message p on, where `rest` is what is left of the set's byte
abbrev pub members_from : ℕ → ℕ → ℕ → List ℕ
members_from K p rest = members p (set_in (K - p) rest)

pub members_kept : (K p rest : ℕ) → p < K → rest % 2 ≡ 1 → members_from K p rest ≡ p ∷ members_from K (p + 1) (rest / 2)
unfolding members set_in
members_kept K p rest h e =
    let left : K - p ≡ suc (K - (p + 1)) = omega arith in
    rw (left, eq-eqb (rest % 2) 1 e, add-one p)

pub members-skipped : (K p rest : ℕ) → p < K → (rest % 2 ≡ 1 → ⊥) → members_from K p rest ≡ members_from K (p + 1) (rest / 2)
unfolding members set_in
members-skipped K p rest h e =
    let left : K - p ≡ suc (K - (p + 1)) = omega arith in
    rw (left, ne_eqb (rest % 2) 1 e, add-one p)

-- one row more of a set
pub rows_more : (A : List Bool) (count i : ℕ) → i < count
    → flat_map (members 0) (replicate (count - i) A) ≡ members 0 A ++ flat_map (members 0) (replicate (count - (i + 1)) A)
unfolding flat_map
rows_more A count i h =
    let left : count - i ≡ suc (count - (i + 1)) = omega arith in
    rw left
