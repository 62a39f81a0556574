-- Lists in lexicographic order, and lists in which each element comes before all later ones.
use Rattle.std.specs.Prelude.{ℕ, Bool, true, false, ◌&&◌, ◌||◌, List, [], ◌∷◌, eqb, ltb}
use Rattle.lists.specs.Sums.{All}

-- one list comes before another where they first differ, or where it ends first
unfoldable pub precedes : List ℕ → List ℕ → Bool
precedes [] [] = false
precedes [] (y ∷ ys) = true
precedes (x ∷ xs) [] = false
precedes (x ∷ xs) (y ∷ ys) = ltb x y || eqb x y && precedes xs ys

-- each element has the relation to all later ones
pub data Ordered {A : Type 0} (R : A → A → Type 0) : List A → Type 0 where
  ordered_nil : Ordered R []
  ordered_cons : {x : A} {xs : List A} → All (R x) xs → Ordered R xs → Ordered R (x ∷ xs)
