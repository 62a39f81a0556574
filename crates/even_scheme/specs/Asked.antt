-- What a query of the even code asks for (document 01, 'Even code'; the shape is that of scheme/specs/Asked.antt): a row for each set of the layout.
use Rattle.std.specs.Prelude.{ℕ, Bool, drop}
use mathlib.Core.List.{List, [], ◌∷◌, zip}
use Rattle.scheme.specs.Asked.{Cell}
use Rattle.even_places.specs.Rule.{ones_in, members, layout}

-- each row has its set's messages, ascending, each with the next number of the query
unfoldable pub set_rows : List (List Bool) → List ℕ → List (List Cell)
set_rows [] query = []
set_rows (A ∷ sets) query = zip (members 0 A) query ∷ set_rows sets (drop (ones_in A) query)

abbrev pub layout_rows : ℕ → ℕ → List ℕ → List (List Cell)
layout_rows N K query = set_rows (layout N K) query
