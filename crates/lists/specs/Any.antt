-- Some element of a list has a property.
use Rattle.std.specs.Prelude.{List, ◌∷◌}

pub data Any {A : Type 0} (P : A → Type 0) : List A → Type 0 where
  any_here : {x : A} {xs : List A} → P x → Any P (x ∷ xs)
  any_later : {x : A} {xs : List A} → Any P xs → Any P (x ∷ xs)
