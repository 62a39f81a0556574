-- Digits modulo N: their sum, and the balancing digit, which is the one digit with which they sum up to the server's number: `balanced`,
-- `balance-only`.
use mathlib.Core.Bool.{true}
use mathlib.Core.Path.{◌≡◌, refl, sym, ap, ◌∙◌}
use mathlib.Core.List.{List, [], ◌∷◌}
use Prim.Native.Nat.{ℕ, zero, suc, ◌+◌, ◌-◌, ◌%◌, ◌≤◌, ◌<◌}
use native.Mathlib.Nat.{zero-add, mod-lt, mod-eq_of_lt, mod-add-mod, add-mod-mod, add-mod_right, mod-eq-sub-mod}
use native.Mathlib.Omega.{arith}
use Rattle.lists.specs.Below.{all_below}
use Rattle.lists.specs.Inserts.{insert_at}
use Rattle.lists.proofs.Below.{all_below-below}
use Rattle.short_scheme.specs.Short.{all_zero, digit_sum, key_sum, balancing}

-- less than N too much is taken away at once
pub once-around : (N a : ℕ) → N ≤ a → a - N < N → a % N ≡ a - N
once-around N a h l = mod-eq-sub-mod h ∙ mod-eq_of_lt l

pub sum-insert : (at x : ℕ) (l : List ℕ) → digit_sum (insert_at at x l) ≡ x + digit_sum l
unfolding digit_sum
sum-insert zero x l = refl
sum-insert (suc at) x [] = refl
sum-insert (suc at) x (y ∷ l) = let e = sum-insert at x l in omega arith

pub sum_zeros : (l : List ℕ) → all_zero l ≡ true → digit_sum l ≡ 0
unfolding all_below digit_sum
sum_zeros [] e = refl
sum_zeros (zero ∷ l) e = zero-add (digit_sum l) ∙ sum_zeros l e
sum_zeros (suc d ∷ l) e = let h = all_below-below 1 (suc d ∷ l) e 0 (omega arith) in absurd (let w : ⊥ = omega arith in w)

module _ (N n : ℕ) (key : List ℕ) (known : n < N) where
  -- with the balancing digit the sum is n
  pub balanced : (balancing N n key + digit_sum key) % N ≡ n
  balanced =
      let r = mod-lt (digit_sum key) {m = N} (omega arith) in
      let rest = N - key_sum N key in
      let e : n + rest + key_sum N key ≡ n + N = omega arith in
      mod-add-mod (n + rest) N (digit_sum key) ∙ sym (add-mod-mod (n + rest) (digit_sum key) N) ∙ ap (λ (m : ℕ). m % N) e
      ∙ add-mod_right n N ∙ mod-eq_of_lt known

  -- and no other digit gives it
  pub balance-only : (x : ℕ) → x < N → (x + digit_sum key) % N ≡ n → balancing N n key ≡ x
  balance-only x h e =
      let r = mod-lt (digit_sum key) {m = N} (omega arith) in
      let rest = N - key_sum N key in
      let a : x + digit_sum key + rest ≡ x + rest + digit_sum key = omega arith in
      let b : x + rest + key_sum N key ≡ x + N = omega arith in
      ap (λ (m : ℕ). (m + rest) % N) (sym e) ∙ mod-add-mod (x + digit_sum key) N rest ∙ ap (λ (m : ℕ). m % N) a
      ∙ sym (add-mod-mod (x + rest) (digit_sum key) N) ∙ ap (λ (m : ℕ). m % N) b ∙ add-mod_right x N ∙ mod-eq_of_lt h

  pub balance-below : balancing N n key < N
  balance-below = mod-lt (n + (N - key_sum N key)) (omega arith)

-- Server (d + T) modulo N is asked for digit d, and server T for digit 0
pub balance-turn : (N d : ℕ) (key : List ℕ) → d < N → balancing N ((d + key_sum N key) % N) key ≡ d
balance-turn N d key h =
    balance-only N ((d + key_sum N key) % N) key (mod-lt (d + key_sum N key) (omega arith)) d h (sym (add-mod-mod d (digit_sum key) N))

pub balance-none : (N : ℕ) (key : List ℕ) → 0 < N → balancing N (key_sum N key) key ≡ 0
balance-none N key h =
    balance-only N (key_sum N key) key (mod-lt (digit_sum key) h) 0 h (ap (λ (x : ℕ). x % N) (zero-add (digit_sum key)))
