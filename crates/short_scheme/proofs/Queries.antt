-- Queries: what a server admits (`admits-row`), that it admits the query of every valid key (`query-admits`), and which key a query
-- comes from (`key-query`).
use mathlib.Core.Path.{◌≡◌, sym, ap, ◌∙◌}
use mathlib.Core.Bool.{true, ◌&&◌, and-eq-true_iff}
use mathlib.Core.List.{List}
use Prim.Native.Nat.{ℕ, suc, ◌+◌, ◌-◌, ◌%◌, ◌<◌}
use native.Mathlib.Nat.{zero-mod}
use native.Mathlib.Omega.{arith}
use borrow.Author.Tests.{eqb-true, eq-eqb}
use lib.Dec.{eqb}
use lib.ListN.{length, get_or}
use Rattle.lists.specs.Below.{all_below}
use Rattle.lists.specs.Inserts.{insert_at, remove_at}
use Rattle.lists.proofs.Below.{all_below-below, below-all_below}
use Rattle.lists.proofs.Inserts.{insert-length, insert-below, remove-length, remove-below, remove-insert, insert-remove}
use Rattle.short_scheme.specs.Short.{all_zero, digit_sum, balancing, short_query, short_admits}
use Rattle.short_scheme.specs.Rows.{DigitRow}
use Rattle.short_scheme.proofs.Digits.{sum-insert, sum_zeros, balanced, balance-only, balance-below}

-- the three tests of admission, as facts and back
pub admits-row : (N K n : ℕ) (query : List ℕ) → short_admits N K n query ≡ true → DigitRow N K query
unfolding short_admits
admits-row N K n query e =
    let p = (and-eq-true_iff (eqb (length query) K) (all_below N query && eqb (digit_sum query % N) n)).0 e in
    record { long = eqb-true (length query) K p.0; digits = ((and-eq-true_iff (all_below N query) (eqb (digit_sum query % N) n)).0 p.1).0 }

pub admits-sum : (N K n : ℕ) (query : List ℕ) → short_admits N K n query ≡ true → digit_sum query % N ≡ n
unfolding short_admits
admits-sum N K n query e =
    let p = (and-eq-true_iff (eqb (length query) K) (all_below N query && eqb (digit_sum query % N) n)).0 e in
    eqb-true (digit_sum query % N) n ((and-eq-true_iff (all_below N query) (eqb (digit_sum query % N) n)).0 p.1).1

pub admitted : (N K n : ℕ) (query : List ℕ) → DigitRow N K query → digit_sum query % N ≡ n → short_admits N K n query ≡ true
unfolding short_admits
admitted N K n query row e = rw (eq-eqb (length query) K row.long, row.digits, eq-eqb (digit_sum query % N) n e)

-- only server 0 admits the row of zeros
pub zeros-server : (N K n : ℕ) (query : List ℕ) → short_admits N K n query ≡ true → all_zero query ≡ true → n ≡ 0
zeros-server N K n query e z = sym (admits-sum N K n query e) ∙ ap (λ (x : ℕ). x % N) (sum_zeros query z) ∙ zero-mod N

-- a key of K - 1 digits below N, the message that it is used for, and a server
module _ (N K wanted n : ℕ) (key : List ℕ) (message : wanted < K) (server : n < N) (long : length key ≡ K - 1) (good : all_below N key ≡ true) where
  pub query-long : length (short_query N wanted n key) ≡ K
  unfolding short_query
  query-long = insert-length wanted (balancing N n key) key ∙ (let e : suc (length key) ≡ K = omega arith in e)

  query-good : all_below N (short_query N wanted n key) ≡ true
  unfolding short_query
  query-good =
      below-all_below N (insert_at wanted (balancing N n key) key)
      (insert-below N wanted (balancing N n key) key (balance-below N n key server) (all_below-below N key good))

  query-sum : digit_sum (short_query N wanted n key) % N ≡ n
  unfolding short_query
  query-sum = ap (λ (x : ℕ). x % N) (sum-insert wanted (balancing N n key) key) ∙ balanced N n key server

  pub query-admits : short_admits N K n (short_query N wanted n key) ≡ true
  query-admits = admitted N K n (short_query N wanted n key) (record { long = query-long; digits = query-good }) query-sum

  -- the key is the query without its balancing digit
  pub query-key : remove_at wanted (short_query N wanted n key) ≡ key
  unfolding short_query
  query-key = remove-insert wanted (balancing N n key) key (omega arith)

-- any admitted query, without the digit of any message, is a key that gives it
module _ (N K wanted n : ℕ) (query : List ℕ) (message : wanted < K) (server : n < N) (admits : short_admits N K n query ≡ true) where
  within : wanted < length query
  within = omega (arith, (admits-row N K n query admits).long)

  pub key-long : length (remove_at wanted query) ≡ K - 1
  key-long = omega (arith, remove-length wanted query within, (admits-row N K n query admits).long)

  pub key_below : all_below N (remove_at wanted query) ≡ true
  key_below =
      below-all_below N (remove_at wanted query) (remove-below N wanted query (all_below-below N query (admits-row N K n query admits).digits))

  pub key-query : short_query N wanted n (remove_at wanted query) ≡ query
  unfolding short_query
  key-query =
      let d = get_or query wanted 0 in
      let key = remove_at wanted query in
      let back : insert_at wanted d key ≡ query = insert-remove wanted query within in
      let small : d < N = all_below-below N query (admits-row N K n query admits).digits wanted within in
      let sums : (d + digit_sum key) % N ≡ n =
      ap (λ (x : ℕ). x % N) (sym (sum-insert wanted d key) ∙ ap digit_sum back) ∙ admits-sum N K n query admits in
      ap (λ (x : ℕ). insert_at wanted x key) (balance-only N n key server d small sums) ∙ back
