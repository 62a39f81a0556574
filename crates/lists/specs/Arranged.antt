-- Permutations as lists: a list laid out by another, entries picked by their places, and different numbers completed to a permutation.
use Rattle.std.specs.Prelude.{ℕ, suc, cond, not, List, [], ◌∷◌, ◌++◌, map, eqb, length, get_or}
use Rattle.lists.specs.Distinct.{stands}
use Rattle.lists.specs.Ranges.{range}
use Rattle.lists.specs.Sums.{keep}

-- the place at which x stands first; the list's length where it does not stand
unfoldable pub place_in : ℕ → List ℕ → ℕ
place_in x [] = 0
place_in x (y ∷ ys) = cond (eqb x y) 0 (suc (place_in x ys))

-- for a permutation A, the list with entry i of B at the place that is entry i of A
unfoldable pub arranged : List ℕ → List ℕ → List ℕ
arranged A B = map (λ place. get_or B (place_in place A) 0) (range 0 (length A))

-- the entries at these places
unfoldable pub picked : List ℕ → List ℕ → List ℕ
picked list places = map (λ place. get_or list place 0) places

-- numbers below `size`, then those of them that are left, ascending
unfoldable pub completed : ℕ → List ℕ → List ℕ
completed size xs = xs ++ keep (λ v. not (stands v xs)) (range 0 size)
