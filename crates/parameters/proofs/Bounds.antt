-- The bounds of each code, from tests to facts (`short-bounds`, `even-bounds`, `round-bounds`). That the even code has at most 8 messages follows
-- from N^K being at most 256, and that the round code has at most 7 from N^(K-1) being at most 64.
use Rattle.std.proofs.lemmas.Bool.Decides.{nat_tests}
use mathlib.Core.Path.{◌≡◌, refl}
use mathlib.Core.Bool.{Bool, true, false, ◌&&◌}
use Prim.Native.Nat.{ℕ, suc, ◌-◌, ◌^◌, ◌≤◌, ◌<◌}
use native.Mathlib.Nat.{pow-le-pow_left, pow-le-pow_right}
use native.Mathlib.Omega.{arith}
use borrow.Author.Tests.{leb-true, leb-false}
use lib.Dec.{leb}
use Rattle.lists.proofs.Both.{both_true}
use Rattle.parameters.specs.Bounds.{servers_fit, symbol_fits, even_messages_fit, round_messages_fit, blocks}
use Rattle.parameters.specs.Bounds.{short_fits, even_fits, round_fits}

pub record ShortBounds (N K S : ℕ) : Type 0 where
  pub servers-low : 2 ≤ N
  pub servers-high : N ≤ 16
  pub symbol_low : 1 ≤ S
  pub symbol_high : S ≤ 4096
  pub messages-low : 1 ≤ K
  pub messages-high : K ≤ 32

pub record EvenBounds (N K S : ℕ) : Type 0 where
  pub servers-low : 2 ≤ N
  pub servers-high : N ≤ 16
  pub symbol_low : 1 ≤ S
  pub symbol_high : S ≤ 4096
  pub messages-low : 1 ≤ K
  pub messages-high : K ≤ 8
  pub symbols-high : N ^ K ≤ 256

pub record RoundBounds (N K S : ℕ) : Type 0 where
  pub servers-low : 2 ≤ N
  pub servers-high : N ≤ 16
  pub symbol_low : 1 ≤ S
  pub symbol_high : S ≤ 4096
  pub messages-low : 1 ≤ K
  pub messages-high : K ≤ 7
  pub blocks-high : blocks N K ≤ 64

-- a test of two orders
within : (a n b : ℕ) → leb a n && leb n b ≡ true → (a ≤ n) × (n ≤ b)
within a n b e = let p = both_true (leb a n) (leb n b) e in (leb-true a n p.0, leb-true n b p.1)

pub short-bounds : (N K S : ℕ) → short_fits N K S ≡ true → ShortBounds N K S
unfolding short_fits
short-bounds N K S e = grind (arith, nat_tests)

-- an exponent is at most `most` where the power is within a limit that two to the next one is above
exponent-high : (N exponent most limit : ℕ) → 2 ≤ N → limit < 2 ^ suc most → N ^ exponent ≤ limit → exponent ≤ most
exponent-high N exponent most limit h above e = go (leb exponent most) refl
  where
    go : (t : Bool) → leb exponent most ≡ t → exponent ≤ most
    go true few = leb-true exponent most few
    go false many =
        let low : 2 ^ suc most ≤ 2 ^ exponent = pow-le-pow_right {n = 2} (omega arith) (leb-false exponent most many) in
        let high : 2 ^ exponent ≤ N ^ exponent = pow-le-pow_left h exponent in
        absurd (let w : ⊥ = omega arith in w)

pub even-bounds : (N K S : ℕ) → even_fits N K S ≡ true → EvenBounds N K S
unfolding even_fits
even-bounds N K S e =
    let p = both_true (servers_fit N) (symbol_fits S && even_messages_fit N K) e in
    let q = both_true (symbol_fits S) (even_messages_fit N K) p.1 in
    let n = within 2 N 16 p.0 in
    let s = within 1 S 4096 q.0 in
    let k = both_true (leb 1 K) (leb (N ^ K) 256) q.1 in
    record {
      servers-low = n.0;
      servers-high = n.1;
      symbol_low = s.0;
      symbol_high = s.1;
      messages-low = leb-true 1 K k.0;
      messages-high = exponent-high N K 8 256 n.0 (omega arith) (leb-true (N ^ K) 256 k.1);
      symbols-high = leb-true (N ^ K) 256 k.1;
    }

pub round-bounds : (N K S : ℕ) → round_fits N K S ≡ true → RoundBounds N K S
unfolding round_fits
round-bounds N K S e =
    let p = both_true (servers_fit N) (symbol_fits S && round_messages_fit N K) e in
    let q = both_true (symbol_fits S) (round_messages_fit N K) p.1 in
    let n = within 2 N 16 p.0 in
    let s = within 1 S 4096 q.0 in
    let k = both_true (leb 1 K) (leb (blocks N K) 64) q.1 in
    let few : blocks N K ≤ 64 = leb-true (blocks N K) 64 k.1 in
    let less : K - 1 ≤ 6 = exponent-high N (K - 1) 6 64 n.0 (omega arith) few in
    record {
      servers-low = n.0;
      servers-high = n.1;
      symbol_low = s.0;
      symbol_high = s.1;
      messages-low = leb-true 1 K k.0;
      messages-high = omega arith;
      blocks-high = few;
    }
