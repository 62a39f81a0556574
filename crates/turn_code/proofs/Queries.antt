-- Queries of the turning code: a server admits those of every valid key (`query-row`, `row-admitted`), and every row of K digits below N comes, at each
-- server and for each wanted message, from exactly one key (`made-gives`, `key_back`): the row without the message's digit, and the turn that brings the
-- server to the part whose rows have the row's sum.
use mathlib.Core.Path.{◌≡◌, refl, ap, ap₂, ◌∙◌}
use mathlib.Core.Bool.{true}
use mathlib.Core.List.{List, [], ◌∷◌, ◌++◌}
use Prim.Native.Nat.{ℕ, ◌+◌, ◌-◌, ◌%◌, ◌<◌}
use native.Mathlib.Nat.{mod-lt, add_comm}
use native.Mathlib.Omega.{arith}
use borrow.Author.Tests.{eqb-true, eq-eqb}
use lib.Dec.{eqb}
use lib.ListN.{length}
use Rattle.lists.specs.Below.{all_below}
use Rattle.lists.specs.Inserts.{remove_at}
use Rattle.lists.proofs.Below.{all_below-below, below-all_below, below-append, below-cons}
use Rattle.lists.proofs.Both.{both_true}
use Rattle.short_scheme.specs.Short.{digit_sum, short_query, short_admits}
use Rattle.short_scheme.specs.Rows.{DigitRow}
use Rattle.short_scheme.proofs.Queries.{admits-row, admits-sum, admitted, query-admits, query-key, key-long, key_below, key-query}
use Rattle.turn_code.specs.Turn.{turn_of, other_digits, part_of, turn_query, turn_admits}
use Rattle.turn_code.proofs.Keys.{joined_length, joined-turn, joined-others, key-joined, others-length, others-good, turn_below}
use Rattle.turn_code.proofs.Parts.{on-and-back, back-and-on, part-below}

-- the two tests of admission, as facts and back
pub admitted-row : (N K : ℕ) (query : List ℕ) → turn_admits N K query ≡ true → DigitRow N K query
unfolding turn_admits
admitted-row N K query e =
    let p = both_true (eqb (length query) K) (all_below N query) e in
    record { long = eqb-true (length query) K p.0; digits = p.1 }

pub row-admitted : (N K : ℕ) (query : List ℕ) → DigitRow N K query → turn_admits N K query ≡ true
unfolding turn_admits
row-admitted N K query row = rw (eq-eqb (length query) K row.long, row.digits)

-- the key that a server's row comes from
abbrev pub turn_key : ℕ → ℕ → ℕ → List ℕ → List ℕ
turn_key N wanted server row = remove_at wanted row ++ ((digit_sum row % N + (N - server)) % N ∷ [])

-- a valid key, the message that it is used for, and a server
module _ (N K wanted server : ℕ) (key : List ℕ) (known : wanted < K) (there : server < N) (long : length key ≡ K) (good : all_below N key ≡ true) where
  abbrev part : ℕ
  part = part_of N key server

  below : part < N
  below = part-below N key (omega arith) server

  others-long : length (other_digits key) ≡ K - 1
  others-long = omega (arith, others-length key, long)

  -- the server of the short code that is played admits the query
  played : short_admits N K part (turn_query N wanted server key) ≡ true
  unfolding turn_query
  played =
      query-admits N K wanted part (other_digits key) known below others-long (others-good N key good)

  pub query-row : DigitRow N K (turn_query N wanted server key)
  query-row = admits-row N K part (turn_query N wanted server key) played

  -- the key of its query is the key
  pub key_back : turn_key N wanted server (turn_query N wanted server key) ≡ key
  unfolding turn_query
  key_back =
      let low = turn_below N key good (omega arith) in
      let turn : (part + (N - server)) % N ≡ turn_of key =
      ap (λ (m : ℕ). (m % N + (N - server)) % N) (add_comm server (turn_of key)) ∙ on-and-back N (turn_of key) server low there in
      ap₂ (λ (front : List ℕ) (r : ℕ). front ++ (r ∷ []))
      (query-key N K wanted part (other_digits key) known below others-long (others-good N key good))
      (ap (λ (m : ℕ). (m + (N - server)) % N) (admits-sum N K part (turn_query N wanted server key) played) ∙ turn)
      ∙ key-joined key (omega arith)

-- a row, and the key that it is to come from
module _ (N K wanted server : ℕ) (row : List ℕ) (known : wanted < K) (there : server < N) (digits : DigitRow N K row) where
  abbrev home : ℕ
  home = digit_sum row % N

  abbrev front : List ℕ
  front = remove_at wanted row

  abbrev turn : ℕ
  turn = (home + (N - server)) % N

  home_below : home < N
  home_below = mod-lt (digit_sum row) (omega arith)

  -- the server of the short code that the row belongs to
  at_home : short_admits N K home row ≡ true
  at_home = admitted N K home row digits refl

  pub made-long : length (turn_key N wanted server row) ≡ K
  made-long = joined_length front turn ∙ omega (arith, key-long N K wanted home row known home_below at_home)

  pub made-good : all_below N (turn_key N wanted server row) ≡ true
  made-good =
      below-all_below N (turn_key N wanted server row)
      (below-append N front (turn ∷ [])
      (all_below-below N front (key_below N K wanted home row known home_below at_home))
      (below-cons N turn [] (mod-lt (home + (N - server)) (omega arith)) (λ i h. absurd (let w : ⊥ = omega arith in w))))

  pub made-gives : turn_query N wanted server (turn_key N wanted server row) ≡ row
  unfolding turn_query
  made-gives =
      let back : (server + turn) % N ≡ home = ap (λ (m : ℕ). m % N) (add_comm server turn) ∙ back-and-on N home server home_below there in
      ap₂ (λ (r : ℕ) (key : List ℕ). short_query N wanted ((server + r) % N) key) (joined-turn front turn) (joined-others front turn)
      ∙ ap (λ (n : ℕ). short_query N wanted n front) back
      ∙ key-query N K wanted home row known home_below at_home
