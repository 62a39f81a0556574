-- Lists of pairs, each a label and an entry.
use Rattle.std.specs.Prelude.{ℕ, List, map, eqb}
use Rattle.lists.specs.Sums.{keep}

-- the entries with label p, in order
unfoldable pub under : ℕ → List (ℕ × ℕ) → List ℕ
under p pairs = map (λ e. e.1) (keep (λ e. eqb e.0 p) pairs)
