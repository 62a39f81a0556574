-- Within the bounds of a code its sizes are small (`short-small`, `turn_small`, `even-small`, `round-small`): what callers need so that their sums
-- and products fit. No message is empty, and the length of each has at most seven digits: the longest is the round code's, of 8 servers and
-- 3 messages.
-- Rests on the bounds as facts (`Bounds`).
use Rattle.std.proofs.lemmas.Bool.Decides.{nat_tests}
use mathlib.Core.Path.{◌≡◌, refl, sym, ap, ap₂, ◌∙◌}
use mathlib.Core.Bool.{Bool, true, not, ◌&&◌, ◌||◌}
use Prim.Native.Nat.{ℕ, suc, ◌+◌, ◌-◌, ◌*◌, ◌^◌, ◌≤◌, ◌<◌}
use native.Mathlib.Nat.{mul-le-mul, one-le-pow, mul_comm, mul_assoc, mul_left_comm, pow-suc, pow-le-pow_right, div-le_self}
use native.Mathlib.Omega.{arith}
use borrow.Author.Tests.{le-leb, leb-true}
use lib.Dec.{leb}
use Rattle.lists.specs.Ranges.{every}
use Rattle.lists.proofs.Every.{every-at}
use Rattle.lists.proofs.Both.{both_true}
use Rattle.parameters.specs.declared.Sizes.{Sizes}
use Rattle.parameters.specs.Measures.{short_sizes, turn_sizes, even_rows, even_sizes, round_sizes, key_places, most_servers}
use Rattle.parameters.specs.Bounds.{blocks}
use Rattle.parameters.proofs.Bounds.{ShortBounds, EvenBounds, RoundBounds, short-bounds, even-bounds, round-bounds}

-- the sizes, and the queries and slots of N servers together
pub record Small (N : ℕ) (sizes : Sizes) : Type 0 where
  pub servers : N ≤ most_servers
  pub symbols : sizes.symbols ≤ 448
  pub message-some : 1 ≤ sizes.message
  pub message : sizes.message ≤ 1835008
  pub store : sizes.store < 2 ^ 32
  pub key : sizes.key ≤ key_places
  pub query : sizes.query ≤ key_places
  pub queries : N * sizes.query ≤ key_places
  pub slot : sizes.slot < 2 ^ 32
  pub slots : N * sizes.slot < 2 ^ 32

pub short-small : (N K S : ℕ) → ShortBounds N K S → Small N (short_sizes N K S)
unfolding short_sizes
short-small N K S b = grind (arith, nat_tests)

-- a key of the turning code is as long as its queries
pub turn_small : (N K S : ℕ) → ShortBounds N K S → Small N (turn_sizes N K S)
unfolding turn_sizes short_sizes
turn_small N K S b = grind (arith, nat_tests)

-- a server's share of a message's symbols
pub share-small : (N K S : ℕ) → EvenBounds N K S → N ^ (K - 1) ≤ 256
share-small N K S b =
    let h : N ^ (K - 1) ≤ N ^ K = pow-le-pow_right {n = N} (omega arith) (omega arith) in omega arith

pub rows-small : (N K S : ℕ) → EvenBounds N K S → even_rows N K ≤ 512
unfolding even_rows
rows-small N K S b =
    let h = share-small N K S b in let d = div-le_self (N ^ (K - 1) - 1) (N - 1) in omega arith

-- the queries of all servers name every symbol of every message once
queries-whole : (N K : ℕ) → 1 ≤ K → N * (K * N ^ (K - 1)) ≡ K * N ^ K
queries-whole N K h =
    let less : N * N ^ (K - 1) ≡ N ^ K =
    mul_comm N (N ^ (K - 1)) ∙ sym (pow-suc N (K - 1)) ∙ ap (λ (n : ℕ). N ^ n) (let e : suc (K - 1) ≡ K = omega arith in e) in
    mul_left_comm N K (N ^ (K - 1)) ∙ ap (λ (n : ℕ). K * n) less

pub even-small : (N K S : ℕ) → EvenBounds N K S → Small N (even_sizes N K S)
unfolding even_sizes
even-small N K S b =
    let some : 1 * 1 ≤ N ^ K * S = mul-le-mul (one-le-pow K N (let h : 1 ≤ N = omega (arith, b.servers-low) in h)) b.symbol_low in
    let m : N ^ K * S ≤ 256 * 4096 = mul-le-mul b.symbols-high b.symbol_high in
    let t : K * (N ^ K * S) ≤ 8 * (256 * 4096) = mul-le-mul b.messages-high m in
    let k : K * N ^ K ≤ 8 * 256 = mul-le-mul b.messages-high b.symbols-high in
    let q : K * N ^ (K - 1) ≤ 8 * 256 = mul-le-mul b.messages-high (share-small N K S b) in
    let a : N * (K * N ^ (K - 1)) ≡ K * N ^ K = queries-whole N K b.messages-low in
    let s : even_rows N K * S ≤ 512 * 4096 = mul-le-mul (rows-small N K S b) b.symbol_high in
    let l : N * (even_rows N K * S) ≤ 16 * (512 * 4096) = mul-le-mul b.servers-high s in
    record {
      servers = b.servers-high;
      symbols = omega (arith, b.symbols-high);
      message-some = omega arith;
      message = omega arith;
      store = omega arith;
      key = k;
      query = q;
      queries = omega arith;
      slot = omega arith;
      slots = omega arith;
    }

-- where the blocks are few, so are the symbols of a message and the digits of all queries together
abbrev round_few : ℕ → ℕ → Bool
round_few N K = not (leb (blocks N K) 64) || leb (blocks N K * (N - 1)) 448 && leb (N * (blocks N K * K)) key_places

-- one computed test over all N from 2 to 16 and K from 1 to 7
round-few : every 15 (λ i. every 7 (λ j. round_few (i + 2) (j + 1))) ≡ true
unfolding every
round-few = refl

-- so it holds of N servers and K messages
few-at : (N K S : ℕ) → RoundBounds N K S → (blocks N K * (N - 1) ≤ 448) × (N * (blocks N K * K) ≤ key_places)
few-at N K S b =
    let here : round_few (N - 2 + 2) (K - 1 + 1) ≡ true =
    every-at 7 (λ j. round_few (N - 2 + 2) (j + 1)) (every-at 15 (λ i. every 7 (λ j. round_few (i + 2) (j + 1))) round-few (N - 2) (omega arith)) (K - 1)
    (omega arith) in
    let n : N ≡ N - 2 + 2 = omega arith in
    let k : K ≡ K - 1 + 1 = omega arith in
    let few : not (leb (blocks N K) 64) || leb (blocks N K * (N - 1)) 448 && leb (N * (blocks N K * K)) key_places ≡ true = ap₂ round_few n k ∙ here in
    let p = both_true (leb (blocks N K * (N - 1)) 448) (leb (N * (blocks N K * K)) key_places) (rw (le-leb _ _ b.blocks-high) at few) in
    (leb-true (blocks N K * (N - 1)) 448 p.0, leb-true (N * (blocks N K * K)) key_places p.1)

pub round-small : (N K S : ℕ) → RoundBounds N K S → Small N (round_sizes N K S)
unfolding round_sizes
round-small N K S b =
    let few = few-at N K S b in
    let one : 1 ≤ blocks N K = one-le-pow (K - 1) N (let h : 1 ≤ N = omega (arith, b.servers-low) in h) in
    let some : 1 * (1 * 1) ≤ blocks N K * ((N - 1) * S) = mul-le-mul one (mul-le-mul (let h : 1 ≤ N - 1 = omega arith in h) b.symbol_low) in
    let whole : blocks N K * ((N - 1) * S) ≡ blocks N K * (N - 1) * S = sym (mul_assoc (blocks N K) (N - 1) S) in
    let m : blocks N K * (N - 1) * S ≤ 448 * 4096 = mul-le-mul few.0 b.symbol_high in
    let most : blocks N K * ((N - 1) * S) ≤ 448 * 4096 = omega arith in
    let t : K * (blocks N K * ((N - 1) * S)) ≤ 7 * (448 * 4096) = mul-le-mul b.messages-high most in
    let q : blocks N K * K ≤ 64 * 7 = mul-le-mul b.blocks-high b.messages-high in
    let s : blocks N K * S ≤ 64 * 4096 = mul-le-mul b.blocks-high b.symbol_high in
    let l : N * (blocks N K * S) ≤ 16 * (64 * 4096) = mul-le-mul b.servers-high s in
    record {
      servers = b.servers-high;
      symbols = few.0;
      message-some = omega arith;
      message = omega arith;
      store = omega arith;
      key = omega (arith, b.blocks-high);
      query = omega arith;
      queries = few.1;
      slot = omega arith;
      slots = omega arith;
    }

-- what the sizes of each code are proved from
pub ruleset short_facts = (short-bounds, short-small)

pub ruleset even_facts = (even-bounds, even-small, one-le-pow)

pub ruleset round_facts = (round-bounds, round-small)
