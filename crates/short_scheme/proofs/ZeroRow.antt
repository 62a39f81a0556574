-- The row of zeros: which rows are it, which servers are asked for it (`query-zeros`, `query-some`), and what is answered to it and to
-- any other row (`answer-none`, `answer-some`).
use mathlib.Core.Path.{◌≡◌, refl, sym, ap, ◌∙◌}
use mathlib.Core.Bool.{Bool, true, false, cond}
use mathlib.Core.List.{List, [], ◌∷◌}
use Prim.Native.Nat.{ℕ, zero, suc, ◌+◌, ◌%◌, ◌≤◌, ◌<◌}
use native.Mathlib.Nat.{zero-mod}
use native.Mathlib.Omega.{arith}
use borrow.Author.Tests.{le-ltb}
use lib.ListN.{take, drop, take-append-drop}
use Rattle.lists.specs.Below.{all_below}
use Rattle.lists.specs.Inserts.{insert_at}
use Rattle.lists.proofs.Below.{all_below-below, below-joined}
use Rattle.symbol.specs.Sum.{Sum, total}
use Rattle.short_scheme.specs.Short.{all_zero, balancing, named, short_query, short_answer_length, strided_answer}
use Rattle.short_scheme.proofs.Digits.{sum-insert, sum_zeros, balanced, balance-only}

-- digit 0 more does not change it
pub zeros-more : (at : ℕ) (key : List ℕ) → all_zero (insert_at at 0 key) ≡ all_zero key
unfolding all_below
zeros-more at key =
    below-joined 1 (take at key) (0 ∷ drop at key) ∙ sym (below-joined 1 (take at key) (drop at key)) ∙ ap all_zero (take-append-drop at key)

-- and with another digit it is none
pub zeros-broken : (at d : ℕ) (key : List ℕ) → all_zero (insert_at at (suc d) key) ≡ false
unfolding all_below
zeros-broken at d key =
    below-joined 1 (take at key) (suc d ∷ drop at key)
    ∙ ap (λ (t : Bool). cond (all_zero (take at key)) (cond t (all_zero (drop at key)) false) false) (le-ltb (suc d) 1 (omega arith))
    ∙ neither (all_zero (take at key))
  where
    neither : (t : Bool) → cond t false false ≡ false
    neither true = refl
    neither false = refl

-- a row that is not all zeros stays so
zeros-kept : (at d : ℕ) (key : List ℕ) → all_zero key ≡ false → all_zero (insert_at at d key) ≡ false
zeros-kept at zero key e = zeros-more at key ∙ e
zeros-kept at (suc d) key e = zeros-broken at d key

-- server 0 is asked for the row of zeros exactly by the key of zeros, and no other server is asked for it
module _ (N wanted : ℕ) (key : List ℕ) where
  pub query-zeros : 0 < N → all_zero (short_query N wanted 0 key) ≡ all_zero key
  unfolding short_query
  query-zeros h = go (all_zero key) refl
    where
      go : (t : Bool) → all_zero key ≡ t → all_zero (insert_at wanted (balancing N 0 key) key) ≡ all_zero key
      go true e =
          ap (λ (d : ℕ). all_zero (insert_at wanted d key))
          (balance-only N 0 key h 0 h (ap (λ (x : ℕ). (0 + x) % N) (sum_zeros key e) ∙ zero-mod N))
          ∙ zeros-more wanted key
      go false e = zeros-kept wanted (balancing N 0 key) key e ∙ sym e

  pub query-some : (n : ℕ) → n < N → 0 < n → all_zero (short_query N wanted n key) ≡ false
  unfolding short_query
  query-some n h p = go (all_zero (insert_at wanted (balancing N n key) key)) refl
    where
      go : (t : Bool) → all_zero (insert_at wanted (balancing N n key) key) ≡ t → all_zero (insert_at wanted (balancing N n key) key) ≡ false
      go true e =
          let none : 0 ≡ n =
          sym (zero-mod N) ∙ ap (λ (x : ℕ). x % N) (sym (sum_zeros (insert_at wanted (balancing N n key) key) e) ∙ sum-insert wanted (balancing N n key) key)
          ∙ balanced N n key h in
          absurd (let w : ⊥ = omega arith in w)
      go false e = e

module _ (S : ℕ) (query : List ℕ) where
  pub length_none : all_zero query ≡ true → short_answer_length S query ≡ 0
  unfolding short_answer_length
  length_none e = ap (λ (t : Bool). cond t 0 S) e

  pub length_some : all_zero query ≡ false → short_answer_length S query ≡ S
  unfolding short_answer_length
  length_some e = ap (λ (t : Bool). cond t 0 S) e

  -- the room that another row asks for
  pub room-some : (room : ℕ) → all_zero query ≡ false → short_answer_length S query ≤ room → S ≤ room
  room-some room e h = let l = length_some e in omega arith

module _ (sum : Sum) (first stride S : ℕ) (store row : List ℕ) where
  pub answer-none : all_zero row ≡ true → strided_answer sum first stride S store row ≡ []
  answer-none e = ap (λ (t : Bool). cond t [] (total sum S (named first stride S store row))) e

  pub answer-some : all_zero row ≡ false → strided_answer sum first stride S store row ≡ total sum S (named first stride S store row)
  answer-some e = ap (λ (t : Bool). cond t [] (total sum S (named first stride S store row))) e

-- the row of zeros names nothing
pub named-zeros : (first stride S : ℕ) (store row : List ℕ) → all_zero row ≡ true → named first stride S store row ≡ []
unfolding all_below named
named-zeros first stride S store [] e = refl
named-zeros first stride S store (zero ∷ row) e = named-zeros (first + stride) stride S store row e
named-zeros first stride S store (suc d ∷ row) e =
    let h = all_below-below 1 (suc d ∷ row) e 0 (omega arith) in absurd (let w : ⊥ = omega arith in w)
