-- A set of messages as one byte, bit p for message p (`byte-has`): its ones are as many as the set's messages, so that the ones of a
-- block's bytes are the block's number (`block-ones`).
use Prim.Native.Nat.{ℕ, zero, suc, ◌+◌, ◌*◌, ◌^◌, ◌/◌, ◌%◌, ◌<◌}
use native.Mathlib.Nat.{div-div-eq-div-mul, pow-succ', pow-suc, zero-div, div-one}
use native.Mathlib.Omega.{arith}
use mathlib.Core.Path.{◌≡◌, refl, sym, ap, ◌∙◌}
use mathlib.Core.List.{List, [], ◌∷◌}
use mathlib.Core.Bool.{Bool}
use lib.ListN.{length}
use lib.Arith.{digits_lt, digits_div, digits_mod}
use lib.Count.{ones_step, ones}
use Rattle.lists.specs.Sums.{bit, sum, All}
use Rattle.lists.proofs.Each.{All-imp}
use Rattle.lists.proofs.Bits.{bit-small}
use Rattle.even_places.specs.Rule.{has, byte_of, ones_in, sets}
use Rattle.even_places.proofs.BlockRows.{sets-fit}

pub byte-ones : (A : List Bool) → ones (byte_of A) ≡ ones_in A
unfolding byte_of ones_in sum ones
byte-ones [] = refl
byte-ones (a ∷ A) =
    ones_step (byte_of A * 2 + bit a) ∙ rw (digits_mod (byte_of A) {m = 2} (bit-small a), digits_div (byte_of A) {m = 2} (bit-small a), byte-ones A)

pub block-ones : (K b : ℕ) → All (λ A. ones (byte_of A) ≡ b) (sets K b)
block-ones K b = All-imp (λ A h. byte-ones A ∙ h.1) (sets-fit K b)

pub byte-has : (A : List Bool) (p : ℕ) → byte_of A / 2 ^ p % 2 ≡ bit (has p A)
unfolding byte_of has bit
byte-has [] p = ap (λ s. s % 2) (zero-div (2 ^ p))
byte-has (a ∷ A) zero = rw (div-one (byte_of A * 2 + bit a)) (digits_mod (byte_of A) {m = 2} (bit-small a))
byte-has (a ∷ A) (suc p) =
    ap (λ s. (byte_of A * 2 + bit a) / s % 2) (pow-succ' 2 p)
    ∙ ap (λ s. s % 2) (sym (div-div-eq-div-mul (byte_of A * 2 + bit a) 2 (2 ^ p)) ∙ ap (λ s. s / 2 ^ p) (digits_div (byte_of A) {m = 2} (bit-small a)))
    ∙ byte-has A p

pub byte-below : (A : List Bool) → byte_of A < 2 ^ length A
unfolding byte_of
byte-below [] = omega arith
byte-below (a ∷ A) = rw (pow-suc 2 (length A)) (digits_lt (byte-below A) (bit-small a))
