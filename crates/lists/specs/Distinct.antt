-- Lists with no number twice, and permutations.
use Rattle.std.specs.Prelude.{ℕ, Bool, true, false, not, ◌&&◌, ◌||◌, List, [], ◌∷◌, eqb, length}
use Rattle.lists.specs.Below.{all_below}

-- x stands in the list
unfoldable pub stands : ℕ → List ℕ → Bool
stands x [] = false
stands x (y ∷ ys) = eqb x y || stands x ys

-- no number stands in it twice
unfoldable pub distinct : List ℕ → Bool
distinct [] = true
distinct (x ∷ xs) = not (stands x xs) && distinct xs

-- every number below `size` once
unfoldable pub is_permutation : ℕ → List ℕ → Bool
is_permutation size xs = eqb (length xs) size && (all_below size xs && distinct xs)
