-- Laws of exclusive or on byte strings: its length, one byte more of the second string (`xor-more`), its prefixes (`xor-take`), and what makes it
-- a group: `xor-bytes-comm`, `xor-bytes-assoc`, `xor-twice`.
use mathlib.Core.Path.{◌≡◌, refl, sym, ap, ap₂, ◌∙◌}
use mathlib.Core.List.{List, [], ◌∷◌}
use Prim.Native.Nat.{ℕ, zero, suc, ◌<◌}
use native.Mathlib.Nat.{le_of_suc-le-suc, not-suc-le-zero, le_of_eq, suc_inj}
use native.Mathlib.Omega.{arith}
use lib.Bits.{bit_xor, xor_zero_l, xor_comm, xor_self, xor_zero_r, xor_lt}
use lib.ListN.{length, take, get_or, set}
use Rattle.std.specs.Int.Bits.{xor_assoc}
use Rattle.lists.specs.Below.{Below}
use Rattle.lists.proofs.Below.{below-cons}
use Rattle.symbol.specs.Sum.{zeros}
use Rattle.symbol.specs.Xor.{xor_bytes}

abbrev cons : ℕ → List ℕ → List ℕ
cons x l = x ∷ l

pub xor-length : (a b : List ℕ) → length (xor_bytes a b) ≡ length a
unfolding xor_bytes
xor-length [] b = refl
xor-length (x ∷ a) [] = refl
xor-length (x ∷ a) (y ∷ b) = ap suc (xor-length a b)

pub xor-nil : (a : List ℕ) → xor_bytes a [] ≡ a
unfolding xor_bytes
xor-nil [] = refl
xor-nil (x ∷ a) = refl

-- one more byte of b
pub xor-more : (a b : List ℕ) (i : ℕ) → i < length b → i < length a
    → set (xor_bytes a (take i b)) i (bit_xor (get_or (xor_bytes a (take i b)) i 0) (get_or b i 0)) ≡ xor_bytes a (take (suc i) b)
unfolding xor_bytes
xor-more [] b i h k = absurd (not-suc-le-zero k)
xor-more (x ∷ a) [] i h k = absurd (not-suc-le-zero h)
xor-more (x ∷ a) (y ∷ b) zero h k = ap (cons (bit_xor x y)) (sym (xor-nil a))
xor-more (x ∷ a) (y ∷ b) (suc i) h k = ap (cons (bit_xor x y)) (xor-more a b i (le_of_suc-le-suc h) (le_of_suc-le-suc k))

pub xor_below : (a b : List ℕ) → Below 256 a → Below 256 b → Below 256 (xor_bytes a b)
unfolding xor_bytes
xor_below [] b p q = p
xor_below (x ∷ a) [] p q = p
xor_below (x ∷ a) (y ∷ b) p q =
    below-cons 256 (bit_xor x y) (xor_bytes a b) (xor_lt 8 x y (p 0 (omega arith)) (q 0 (omega arith)))
    (xor_below a b (λ i h. p (suc i) (omega arith)) (λ i h. q (suc i) (omega arith)))

pub xor-zeros : (b : List ℕ) → xor_bytes (zeros (length b)) b ≡ b
unfolding xor_bytes
xor-zeros [] = refl
xor-zeros (y ∷ b) = ap₂ cons (xor_zero_l y) (xor-zeros b)

pub xor-bytes-comm : (a b : List ℕ) → length a ≡ length b → xor_bytes a b ≡ xor_bytes b a
unfolding xor_bytes
xor-bytes-comm [] [] h = refl
xor-bytes-comm [] (y ∷ b) h = absurd (not-suc-le-zero (le_of_eq (sym h)))
xor-bytes-comm (x ∷ a) [] h = absurd (not-suc-le-zero (le_of_eq h))
xor-bytes-comm (x ∷ a) (y ∷ b) h = ap₂ cons (xor_comm x y) (xor-bytes-comm a b (suc_inj h))

pub xor-bytes-assoc : (a b c : List ℕ) → length b ≡ length c → xor_bytes (xor_bytes a b) c ≡ xor_bytes a (xor_bytes b c)
unfolding xor_bytes
xor-bytes-assoc [] b c h = refl
xor-bytes-assoc (x ∷ a) [] [] h = refl
xor-bytes-assoc (x ∷ a) [] (z ∷ c) h = absurd (not-suc-le-zero (le_of_eq (sym h)))
xor-bytes-assoc (x ∷ a) (y ∷ b) [] h = refl
xor-bytes-assoc (x ∷ a) (y ∷ b) (z ∷ c) h = ap₂ cons (xor_assoc x y z) (xor-bytes-assoc a b c (suc_inj h))

-- the first n bytes come from the first n bytes
pub xor-take : (n : ℕ) (a b : List ℕ) → take n (xor_bytes a b) ≡ xor_bytes (take n a) (take n b)
unfolding xor_bytes
xor-take zero a b = refl
xor-take (suc n) [] b = refl
xor-take (suc n) (x ∷ a) [] = refl
xor-take (suc n) (x ∷ a) (y ∷ b) = ap (cons (bit_xor x y)) (xor-take n a b)

-- what is combined twice is gone
pub xor-twice : (a b : List ℕ) → xor_bytes (xor_bytes a b) b ≡ a
unfolding xor_bytes
xor-twice [] b = refl
xor-twice (x ∷ a) [] = refl
xor-twice (x ∷ a) (y ∷ b) = ap₂ cons (xor_assoc x y y ∙ ap (bit_xor x) (xor_self y) ∙ xor_zero_r x) (xor-twice a b)
