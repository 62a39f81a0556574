-- The tables of source 003 for N = 2, K = 2 and N = 3, K = 3 (sections IV-A and IV-C), from the definitions by computation: one table
-- with one theorem (`examples`).
use mathlib.Core.Path.{◌≡◌, refl}
use mathlib.Core.List.{List, [], ◌∷◌, map}
use Prim.Native.Nat.{ℕ, suc, ◌-◌, ◌^◌}
use Rattle.lists.specs.Ranges.{range}
use Rattle.lists.specs.Sums.{All, all_nil, all_cons}
use Rattle.symbol.specs.Xor.{xor}
use Rattle.even_places.specs.Rule.{members, query_cells, layout, positions}
use Rattle.even_scheme.specs.Even.{permutation, entry_at, even_query, even_scheme}
use Rattle.even_scheme.proofs.Keys.{key_of}

pub data Example : Type 0 where
  -- printed N K θ DB indices: the output of 003's algorithm for message θ and database DB, both counted from 1, as the indices of
  -- its symbols a_1, b_1, ..
  printed : ℕ → ℕ → ℕ → ℕ → List ℕ → Example
  -- structure N K messages: 003's query structure, as the messages of its symbols: 0 for a (U_1), 1 for b, 2 for c
  structure : ℕ → ℕ → List ℕ → Example

-- under the key that leaves every place as it is, a query lists places
abbrev plain : ℕ → ℕ → List ℕ
plain N K = key_of K (λ p. range 0 (N ^ K))

unfoldable pub Holds : Example → Type 0
Holds (printed N K θ DB indices) = map (λ place. suc place) ((even_scheme xor N K 1).query (θ - 1) (DB - 1) (plain N K)) ≡ indices
Holds (structure N K messages) = positions N K ≡ messages

unfoldable pub table : List Example
table =
    -- 003, N = 2, K = 2
    structure 2 2 (0 ∷ 1 ∷ 0 ∷ 1 ∷ [])
    ∷ printed 2 2 1 1 (1 ∷ 1 ∷ 3 ∷ 2 ∷ [])
    ∷ printed 2 2 1 2 (2 ∷ 2 ∷ 4 ∷ 1 ∷ [])
    ∷ printed 2 2 2 1 (1 ∷ 1 ∷ 2 ∷ 3 ∷ [])
    ∷ printed 2 2 2 2 (2 ∷ 2 ∷ 1 ∷ 4 ∷ [])
    -- 003, N = 3, K = 3
    ∷ structure 3 3 (0 ∷ 1 ∷ 2 ∷ 0 ∷ 1 ∷ 0 ∷ 1 ∷ 0 ∷ 2 ∷ 0 ∷ 2 ∷ 1 ∷ 2 ∷ 1 ∷ 2 ∷ 0 ∷ 1 ∷ 2 ∷ 0 ∷ 1 ∷ 2 ∷ 0 ∷ 1 ∷ 2 ∷ 0 ∷ 1 ∷ 2 ∷ [])
    ∷ printed 3 3 1 1 (1 ∷ 1 ∷ 1 ∷ 4 ∷ 2 ∷ 6 ∷ 3 ∷ 5 ∷ 2 ∷ 7 ∷ 3 ∷ 4 ∷ 4 ∷ 5 ∷ 5 ∷ 16 ∷ 6 ∷ 6 ∷ 17 ∷ 7 ∷ 7 ∷ 18 ∷ 8 ∷ 8 ∷ 19 ∷ 9 ∷ 9 ∷ [])
    ∷ printed 3 3 1 2 (2 ∷ 2 ∷ 2 ∷ 8 ∷ 1 ∷ 10 ∷ 3 ∷ 9 ∷ 1 ∷ 11 ∷ 3 ∷ 6 ∷ 6 ∷ 7 ∷ 7 ∷ 20 ∷ 4 ∷ 4 ∷ 21 ∷ 5 ∷ 5 ∷ 22 ∷ 8 ∷ 8 ∷ 23 ∷ 9 ∷ 9 ∷ [])
    ∷ printed 3 3 1 3 (3 ∷ 3 ∷ 3 ∷ 12 ∷ 1 ∷ 14 ∷ 2 ∷ 13 ∷ 1 ∷ 15 ∷ 2 ∷ 8 ∷ 8 ∷ 9 ∷ 9 ∷ 24 ∷ 4 ∷ 4 ∷ 25 ∷ 5 ∷ 5 ∷ 26 ∷ 6 ∷ 6 ∷ 27 ∷ 7 ∷ 7 ∷ [])
    ∷ printed 3 3 2 1 (1 ∷ 1 ∷ 1 ∷ 2 ∷ 4 ∷ 3 ∷ 6 ∷ 4 ∷ 4 ∷ 5 ∷ 5 ∷ 5 ∷ 2 ∷ 7 ∷ 3 ∷ 6 ∷ 16 ∷ 6 ∷ 7 ∷ 17 ∷ 7 ∷ 8 ∷ 18 ∷ 8 ∷ 9 ∷ 19 ∷ 9 ∷ [])
    ∷ printed 3 3 2 2 (2 ∷ 2 ∷ 2 ∷ 1 ∷ 8 ∷ 3 ∷ 10 ∷ 6 ∷ 6 ∷ 7 ∷ 7 ∷ 9 ∷ 1 ∷ 11 ∷ 3 ∷ 4 ∷ 20 ∷ 4 ∷ 5 ∷ 21 ∷ 5 ∷ 8 ∷ 22 ∷ 8 ∷ 9 ∷ 23 ∷ 9 ∷ [])
    -- IV-A has a_2 + b_14 and b_15 + c_2 in this one; IV-C prints a_3 + b_14 and b_15 + c_3, whose a_3 and c_3 are the database's own
    ∷ printed 3 3 2 3 (3 ∷ 3 ∷ 3 ∷ 1 ∷ 12 ∷ 2 ∷ 14 ∷ 8 ∷ 8 ∷ 9 ∷ 9 ∷ 13 ∷ 1 ∷ 15 ∷ 2 ∷ 4 ∷ 24 ∷ 4 ∷ 5 ∷ 25 ∷ 5 ∷ 6 ∷ 26 ∷ 6 ∷ 7 ∷ 27 ∷ 7 ∷ [])
    ∷ printed 3 3 3 1 (1 ∷ 1 ∷ 1 ∷ 4 ∷ 4 ∷ 5 ∷ 5 ∷ 2 ∷ 4 ∷ 3 ∷ 6 ∷ 2 ∷ 5 ∷ 3 ∷ 7 ∷ 6 ∷ 6 ∷ 16 ∷ 7 ∷ 7 ∷ 17 ∷ 8 ∷ 8 ∷ 18 ∷ 9 ∷ 9 ∷ 19 ∷ [])
    ∷ printed 3 3 3 2 (2 ∷ 2 ∷ 2 ∷ 6 ∷ 6 ∷ 7 ∷ 7 ∷ 1 ∷ 8 ∷ 3 ∷ 10 ∷ 1 ∷ 9 ∷ 3 ∷ 11 ∷ 4 ∷ 4 ∷ 20 ∷ 5 ∷ 5 ∷ 21 ∷ 8 ∷ 8 ∷ 22 ∷ 9 ∷ 9 ∷ 23 ∷ [])
    ∷ printed 3 3 3 3 (3 ∷ 3 ∷ 3 ∷ 8 ∷ 8 ∷ 9 ∷ 9 ∷ 1 ∷ 12 ∷ 2 ∷ 14 ∷ 1 ∷ 13 ∷ 2 ∷ 15 ∷ 4 ∷ 4 ∷ 24 ∷ 5 ∷ 5 ∷ 25 ∷ 6 ∷ 6 ∷ 26 ∷ 7 ∷ 7 ∷ 27 ∷ [])
    ∷ []

pub examples : All Holds table
unfolding Holds table even_query entry_at permutation query_cells key_of range positions layout members
examples =
    all_cons refl
    (all_cons refl
    (all_cons refl
    (all_cons refl
    (all_cons refl
    (all_cons refl
    (all_cons refl
    (all_cons refl
    (all_cons refl (all_cons refl (all_cons refl (all_cons refl (all_cons refl (all_cons refl (all_cons refl all_nil))))))))))))))
