-- Lists in which each element comes before all later ones (`Ordered`): in joined lists (`Ordered-append`), in mapped ones (`Ordered-map`),
-- and by a weaker relation (`Ordered-imp`).
use mathlib.Core.List.{List, ◌++◌, map}
use Rattle.lists.specs.Lexicographic.{Ordered, ordered_nil, ordered_cons}
use Rattle.lists.specs.Sums.{All, all_cons}
use Rattle.lists.proofs.Each.{All-imp, All-append, All-map}

module _ {A : Type 0} where
  pub Ordered-imp : {R Q : A → A → Type 0} → ((x y : A) → R x y → Q x y) → {xs : List A} → Ordered R xs → Ordered Q xs
  Ordered-imp h ordered_nil = ordered_nil
  Ordered-imp h (ordered_cons {x = x} a o) = ordered_cons (All-imp (λ y r. h x y r) a) (Ordered-imp h o)

  pub Ordered-append : {R : A → A → Type 0} {xs ys : List A} → Ordered R xs → Ordered R ys → All (λ x. All (R x) ys) xs → Ordered R (xs ++ ys)
  Ordered-append ordered_nil o c = o
  Ordered-append (ordered_cons a p) o (all_cons r c) = ordered_cons (All-append a r) (Ordered-append p o c)

module _ {A B : Type 0} (f : B → A) where
  pub Ordered-map : {R : A → A → Type 0} {xs : List B} → Ordered (λ x y. R (f x) (f y)) xs → Ordered R (map f xs)
  Ordered-map ordered_nil = ordered_nil
  Ordered-map (ordered_cons a o) = ordered_cons (All-map f a) (Ordered-map o)
