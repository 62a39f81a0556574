-- What a test keeps of a list: all or nothing of it (`keep_all`, `keep-nothing`), what two tests keep (`keep-and`), and what is kept of
-- joined and mapped lists (`keep_append`, `keep-flat_map`).
use mathlib.Core.Path.{◌≡◌, refl, ap, ◌∙◌}
use mathlib.Core.List.{List, [], ◌∷◌, ◌++◌, map, flat_map}
use mathlib.Core.Bool.{Bool, true, false, ◌&&◌}
use Rattle.lists.specs.Sums.{keep, keep_if, All, all_nil, all_cons}

module _ {A : Type 0} where
  pub keep_all : (t : A → Bool) {xs : List A} → All (λ x. t x ≡ true) xs → keep t xs ≡ xs
  unfolding keep keep_if
  keep_all t all_nil = refl
  keep_all t (all_cons {x = x} {xs = xs} e a) = rw (e, keep_all t a)

  pub keep-nothing : (t : A → Bool) {xs : List A} → All (λ x. t x ≡ false) xs → keep t xs ≡ []
  unfolding keep keep_if
  keep-nothing t all_nil = refl
  keep-nothing t (all_cons {x = x} {xs = xs} e a) = rw e (keep-nothing t a)

  -- by two tests is by one after the other
  pub keep-and : (s t : A → Bool) (xs : List A) → keep (λ x. s x && t x) xs ≡ keep s (keep t xs)
  unfolding keep keep_if
  keep-and s t [] = refl
  keep-and s t (x ∷ xs) = go (s x) (t x) refl (keep-and s t xs)
    where
      go : (a b : Bool) → s x ≡ a → keep (λ y. s y && t y) xs ≡ keep s (keep t xs)
          → keep_if (a && b) x (keep (λ y. s y && t y) xs) ≡ keep s (keep_if b x (keep t xs))
      go true true e ih = rw (e, ih)
      go true false e ih = ih
      go false true e ih = rw (e, ih)
      go false false e ih = ih

  pub keep_append : (t : A → Bool) (xs ys : List A) → keep t (xs ++ ys) ≡ keep t xs ++ keep t ys
  unfolding keep keep_if
  keep_append t [] ys = refl
  keep_append t (x ∷ xs) ys = go (t x) (keep_append t xs ys)
    where
      go : (b : Bool) → keep t (xs ++ ys) ≡ keep t xs ++ keep t ys → keep_if b x (keep t (xs ++ ys)) ≡ keep_if b x (keep t xs) ++ keep t ys
      go true e = ap (λ l. x ∷ l) e
      go false e = e

module _ {A B : Type 0} where
  pub keep-map : (t : B → Bool) (f : A → B) (xs : List A) → keep t (map f xs) ≡ map f (keep (λ x. t (f x)) xs)
  unfolding keep keep_if
  keep-map t f [] = refl
  keep-map t f (x ∷ xs) = go (t (f x)) (keep-map t f xs)
    where
      go : (b : Bool) → keep t (map f xs) ≡ map f (keep (λ y. t (f y)) xs) → keep_if b (f x) (keep t (map f xs)) ≡ map f (keep_if b x (keep (λ y. t (f y)) xs))
      go true e = ap (λ l. f x ∷ l) e
      go false e = e

  pub keep-flat_map : (t : A → Bool) (g : B → List A) (xs : List B) → keep t (flat_map g xs) ≡ flat_map (λ x. keep t (g x)) xs
  unfolding keep flat_map
  keep-flat_map t g [] = refl
  keep-flat_map t g (x ∷ xs) = keep_append t (g x) (flat_map g xs) ∙ ap (λ l. keep t (g x) ++ l) (keep-flat_map t g xs)
