-- Ranges of numbers.
use Rattle.std.specs.Prelude.{ℕ, zero, suc, Bool, true, ◌&&◌, List, [], ◌∷◌}

-- from, from + 1, .., `count` of them
unfoldable pub range : ℕ → ℕ → List ℕ
range from zero = []
range from (suc count) = from ∷ range (suc from) count

-- the test holds of each number below the count
unfoldable pub every : ℕ → (ℕ → Bool) → Bool
every zero test = true
every (suc count) test = every count test && test count
