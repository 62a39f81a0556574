-- A set's byte by bits: the messages before p are the ones of the byte's remainder by 2^p (`byte-before`), and without p the byte is
-- 2^p less (`byte-without`). Rests on the byte's bits (Bytes).
use Prim.Native.Nat.{ℕ, zero, suc, ◌+◌, ◌-◌, ◌*◌, ◌^◌, ◌%◌, ◌≤◌, ◌<◌}
use native.Mathlib.Nat.{mul-zero, one-mul, mul_assoc, pow-suc, pow-succ', pow-zero, pow-le-pow_right, mod-eq_of_lt, add-mul-mod_self_left}
use native.Mathlib.Omega.{arith}
use mathlib.Core.Path.{◌≡◌, refl, ap, ◌∙◌}
use mathlib.Core.List.{List, [], ◌∷◌}
use mathlib.Core.Bool.{Bool, true, false, false≢true}
use lib.ListN.{length, take, drop, set}
use lib.Count.{ones as count}
use Rattle.lists.specs.Sums.{bit}
use Rattle.even_places.specs.Rule.{has, byte_of, ones_in}
use Rattle.even_places.proofs.Bytes.{byte-ones, byte-below}

byte_split : (A : List Bool) (p : ℕ) → byte_of A ≡ byte_of (take p A) + 2 ^ p * byte_of (drop p A)
unfolding byte_of
byte_split [] zero = refl
byte_split [] (suc p) = omega (arith, mul-zero (2 ^ suc p))
byte_split (a ∷ A) zero = omega (arith, one-mul (byte_of (a ∷ A)), pow-zero 2)
byte_split (a ∷ A) (suc p) =
    let more : 2 ^ suc p * byte_of (drop p A) ≡ 2 * (2 ^ p * byte_of (drop p A)) =
    ap (λ (m : ℕ). m * byte_of (drop p A)) (pow-succ' 2 p) ∙ mul_assoc 2 (2 ^ p) (byte_of (drop p A)) in
    omega (arith, byte_split A p)

take-most : (A : List Bool) (p : ℕ) → length (take p A) ≤ p
take-most [] zero = omega arith
take-most [] (suc p) = omega arith
take-most (a ∷ A) zero = omega arith
take-most (a ∷ A) (suc p) = omega (arith, take-most A p)

pub byte-before : (A : List Bool) (p : ℕ) → count (byte_of A % 2 ^ p) ≡ ones_in (take p A)
byte-before A p =
    let low : byte_of (take p A) < 2 ^ p = omega (arith, byte-below (take p A), pow-le-pow_right {n = 2} (omega arith) (take-most A p)) in
    ap count
    (ap (λ (x : ℕ). x % 2 ^ p) (byte_split A p) ∙ add-mul-mod_self_left (byte_of (take p A)) (2 ^ p) (byte_of (drop p A)) ∙ mod-eq_of_lt low)
    ∙ byte-ones (take p A)

byte-less : (A : List Bool) (p : ℕ) → has p A ≡ true → byte_of (set A p false) + 2 ^ p ≡ byte_of A
unfolding byte_of has bit
byte-less [] p e = absurd (false≢true e)
byte-less (true ∷ A) zero e = omega (arith, pow-zero 2)
byte-less (false ∷ A) zero e = absurd (false≢true e)
byte-less (a ∷ A) (suc p) e = omega (arith, byte-less A p e, pow-suc 2 p)

pub byte-without : (A : List Bool) (p : ℕ) → has p A ≡ true → byte_of A - 2 ^ p ≡ byte_of (set A p false)
byte-without A p e = omega (arith, byte-less A p e)

pub byte-covers : (A : List Bool) (p : ℕ) → has p A ≡ true → 2 ^ p ≤ byte_of A
byte-covers A p e = omega (arith, byte-less A p e)
