-- The greatest number of messages where a power of N bounds it: in the even code (document 01, 'Catalogue': the largest K, looked up by N) and in
-- the round code (document 02, item 8).
use Rattle.std.specs.Prelude.{List, [], ◌∷◌, ℕ, ◌+◌, ◌-◌, ◌≤◌, ◌<◌, Bool, ◌&&◌, leb, get_or}
use Rattle.parameters.specs.Bounds.{servers_fit, symbol_fits}

-- in the even code, for N = 2, 3, .., 16
abbrev pub even_table : List ℕ
even_table = 8 ∷ 5 ∷ 4 ∷ 3 ∷ 3 ∷ 2 ∷ 2 ∷ 2 ∷ 2 ∷ 2 ∷ 2 ∷ 2 ∷ 2 ∷ 2 ∷ 2 ∷ []

-- in the round code
abbrev pub round_table : List ℕ
round_table = 7 ∷ 4 ∷ 4 ∷ 3 ∷ 3 ∷ 3 ∷ 3 ∷ 2 ∷ 2 ∷ 2 ∷ 2 ∷ 2 ∷ 2 ∷ 2 ∷ 2 ∷ []

-- N's entry
abbrev pub most_messages : List ℕ → ℕ → ℕ
most_messages table N = get_or table (N - 2) 0

-- N, K and S are within the bounds of a code that has 1 message or more, and at most as many as N's entry says
abbrev pub table_fits : List ℕ → ℕ → ℕ → ℕ → Bool
table_fits table N K S = servers_fit N && (symbol_fits S && (leb 1 K && leb K (most_messages table N)))

-- a table's rule: what K messages ask for is within the limit, and with one message more it is not. In the even code that is N^K symbols, at
-- most 256, and in the round code N^(K-1) blocks, at most 64
pub record Most (limit : ℕ) (asked : ℕ → ℕ) (K : ℕ) : Type 0 where
  pub within : asked K ≤ limit
  pub beyond : limit < asked (K + 1)
