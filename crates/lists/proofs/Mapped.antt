-- Lists made by a function from a list or from a range: what stands where (`map_at`, `mapped_at`), their length, and when two are equal
-- (`map-all`, `map_range`).
use Prim.Native.Nat.{ℕ, zero, suc, ◌+◌, ◌≤◌, ◌<◌}
use native.Mathlib.Nat.{not-suc-le-zero, le_of_suc-le-suc, zero-add}
use native.Mathlib.Omega.{arith}
use mathlib.Core.Path.{◌≡◌, refl, ap, ap₂, ◌∙◌}
use mathlib.Core.List.{List, [], ◌∷◌, ◌++◌, map}
use lib.ListN.{length, get_or, length-map}
use Rattle.lists.specs.Ranges.{range}
use Rattle.lists.specs.Sums.{All, all_nil, all_cons}
use Rattle.lists.proofs.Ranges.{range_length, range_at, All-from}

module _ {A B : Type 0} where
  pub map-append : (f : A → B) (xs ys : List A) → map f (xs ++ ys) ≡ map f xs ++ map f ys
  map-append f [] ys = refl
  map-append f (x ∷ xs) ys = ap (λ l. f x ∷ l) (map-append f xs ys)

  pub map_at : (f : A → B) (d : A) (e : B) (xs : List A) (i : ℕ) → i < length xs → get_or (map f xs) i e ≡ f (get_or xs i d)
  map_at f d e [] i h = absurd (not-suc-le-zero h)
  map_at f d e (x ∷ xs) zero h = refl
  map_at f d e (x ∷ xs) (suc i) h = map_at f d e xs i (le_of_suc-le-suc h)

  pub map-all : (f g : A → B) {xs : List A} → All (λ x. f x ≡ g x) xs → map f xs ≡ map g xs
  map-all f g all_nil = refl
  map-all f g (all_cons e a) = ap₂ (λ (y : B) (ys : List B). y ∷ ys) e (map-all f g a)

module _ {A : Type 0} where
  pub mapped-length : (f : ℕ → A) (from count : ℕ) → length (map f (range from count)) ≡ count
  mapped-length f from count = length-map (range from count) f ∙ range_length from count

  pub mapped_at : (f : ℕ → A) (d : A) (count i : ℕ) → i < count → get_or (map f (range 0 count)) i d ≡ f i
  mapped_at f d count i h = map_at f 0 d (range 0 count) i (omega (arith, range_length 0 count)) ∙ ap f (range_at 0 count i 0 h ∙ zero-add i)

  pub map_range : (from count : ℕ) (f g : ℕ → A) → ((i : ℕ) → from ≤ i → i < from + count → f i ≡ g i)
      → map f (range from count) ≡ map g (range from count)
  map_range from count f g h = map-all f g (All-from from count h)
