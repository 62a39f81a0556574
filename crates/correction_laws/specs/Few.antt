-- How many bytes of an answer one corrected byte may move (document 02, item 13).
use Rattle.std.specs.Prelude.{ℕ, ◌+◌, not, List, [], ◌∷◌, eqb}
use Rattle.lists.specs.Sums.{bit}
use Rattle.symbol.specs.declared.Operation.{Operation}
use Rattle.symbol.specs.declared.Operation.TheVariants.{ExclusiveOr, Addition}

-- at how many places two buffers differ
unfoldable pub differing : List ℕ → List ℕ → ℕ
differing [] b = 0
differing (x ∷ a) [] = 0
differing (x ∷ a) (y ∷ b) = bit (not (eqb x y)) + differing a b

-- how many bytes of an answer one corrected byte may move
abbrev pub most_moved : Operation → ℕ
most_moved ExclusiveOr = 1
most_moved Addition = 2
