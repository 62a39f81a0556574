-- What a query of the short code asks for (document 01, 'Short code'; the shape is that of scheme/specs/Asked.antt): one row, of the symbols that its
-- digits name; none for the row of zeros. The turning code's queries ask for the same, and each row of a round query, in its own block.
use Rattle.std.specs.Prelude.{ℕ, zero, suc, ◌+◌, cond, List, [], ◌∷◌}
use Rattle.scheme.specs.Asked.{Cell}
use Rattle.short_scheme.specs.Short.{all_zero}

-- Of its message, digit d names symbol d - 1, and digit 0 nothing. The row's first digit is message p's, and symbols are counted from number `from` of
-- each message on
unfoldable pub digit_cells : ℕ → ℕ → List ℕ → List Cell
digit_cells from p [] = []
digit_cells from p (zero ∷ row) = digit_cells from (suc p) row
digit_cells from p (suc d ∷ row) = (p, from + d) ∷ digit_cells from (suc p) row

-- the row of zeros is answered with no bytes
unfoldable pub digit_rows : ℕ → List ℕ → List (List Cell)
digit_rows from row = cond (all_zero row) [] (digit_cells from 0 row ∷ [])
