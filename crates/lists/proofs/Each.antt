-- What holds of each element (`All`): it holds at every place and the other way round (`All-get`, `All-at`); of joined, mapped, repeated
-- and kept lists and their parts (`All-append`, `All-flatMap`, `All-keep`).
use Prim.Native.Nat.{ℕ, zero, suc, ◌<◌}
use native.Mathlib.Nat.{not-suc-le-zero}
use native.Mathlib.Omega.{arith}
use mathlib.Core.Path.{◌≡◌, refl}
use mathlib.Core.Bool.{Bool, true, false}
use mathlib.Core.List.{List, [], ◌∷◌, ◌++◌, map, flat_map}
use lib.ListN.{length, get_or, replicate}
use Rattle.lists.specs.Sums.{All, all_nil, all_cons, keep, keep_if}

module _ {A : Type 0} {P : A → Type 0} (d : A) where
  -- from every place to each element, and back
  pub All-at : (l : List A) → ((i : ℕ) → i < length l → P (get_or l i d)) → All P l
  All-at [] h = all_nil
  All-at (x ∷ l) h = all_cons (h 0 (omega arith)) (All-at l (λ i k. h (suc i) (omega arith)))

  pub All-get : {l : List A} → All P l → (i : ℕ) → i < length l → P (get_or l i d)
  All-get all_nil i h = absurd (not-suc-le-zero h)
  All-get (all_cons p a) zero h = p
  All-get (all_cons p a) (suc i) h = All-get a i (omega arith)

module _ {A : Type 0} where
  pub All-every : {P : A → Type 0} → ((x : A) → P x) → (xs : List A) → All P xs
  All-every h [] = all_nil
  All-every h (x ∷ xs) = all_cons (h x) (All-every h xs)

  pub All-imp : {P Q : A → Type 0} → ((x : A) → P x → Q x) → {xs : List A} → All P xs → All Q xs
  All-imp h all_nil = all_nil
  All-imp h (all_cons p a) = all_cons (h _ p) (All-imp h a)

  pub All-both : {P Q : A → Type 0} {xs : List A} → All P xs → All Q xs → All (λ x. P x × Q x) xs
  All-both all_nil all_nil = all_nil
  All-both (all_cons p a) (all_cons q b) = all_cons (p, q) (All-both a b)

  pub All-replicate : {P : A → Type 0} (n : ℕ) (x : A) → P x → All P (replicate n x)
  All-replicate zero x h = all_nil
  All-replicate (suc n) x h = all_cons h (All-replicate n x h)

  -- what is kept has the property, and passes the test
  pub All-keep : {P : A → Type 0} (t : A → Bool) {xs : List A} → All P xs → All (λ x. P x × (t x ≡ true)) (keep t xs)
  unfolding keep keep_if
  All-keep t all_nil = all_nil
  All-keep {P} t (all_cons {x = x} {xs = xs} h a) = go (t x) refl (All-keep t a)
    where
      go : (b : Bool) → t x ≡ b → All (λ y. P y × (t y ≡ true)) (keep t xs) → All (λ y. P y × (t y ≡ true)) (keep_if b x (keep t xs))
      go true e r = all_cons (h, e) r
      go false e r = r

-- joined lists and their parts
module _ {A : Type 0} {P : A → Type 0} where
  pub All-append : {xs ys : List A} → All P xs → All P ys → All P (xs ++ ys)
  All-append all_nil b = b
  All-append (all_cons h a) b = all_cons h (All-append a b)

  pub All-front : (xs ys : List A) → All P (xs ++ ys) → All P xs
  All-front [] ys a = all_nil
  All-front (x ∷ xs) ys (all_cons h a) = all_cons h (All-front xs ys a)

  pub All-back : (xs ys : List A) → All P (xs ++ ys) → All P ys
  All-back [] ys a = a
  All-back (x ∷ xs) ys (all_cons h a) = All-back xs ys a

  pub All-head : {x : A} {xs : List A} → All P (x ∷ xs) → P x
  All-head (all_cons h a) = h

  pub All-tail : {x : A} {xs : List A} → All P (x ∷ xs) → All P xs
  All-tail (all_cons h a) = a

module _ {A B : Type 0} where
  pub All-flatMap : {P : A → Type 0} (g : B → List A) {xs : List B} → All (λ x. All P (g x)) xs → All P (flat_map g xs)
  unfolding flat_map
  All-flatMap g all_nil = all_nil
  All-flatMap g (all_cons h a) = All-append h (All-flatMap g a)

  pub All-map : {P : A → Type 0} (g : B → A) {xs : List B} → All (λ x. P (g x)) xs → All P (map g xs)
  All-map g all_nil = all_nil
  All-map g (all_cons h a) = all_cons h (All-map g a)
