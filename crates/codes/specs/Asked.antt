-- What a query asks for, by the code of each catalogue: rows of cells, in the order of their answers (scheme/specs/Asked.antt).
use Rattle.std.specs.Prelude.{ℕ, List}
use Rattle.catalogue.specs.declared.Code.{Code}
use Rattle.catalogue.specs.declared.Code.TheVariants.{Short, Even, Turn, Round}
use Rattle.catalogue.specs.declared.Catalogue.{Catalogue}
use Rattle.scheme.specs.Asked.{Cell}
use Rattle.short_scheme.specs.Asked.{digit_rows}
use Rattle.even_scheme.specs.Asked.{layout_rows}
use Rattle.round_scheme.specs.Asked.{block_rows}

abbrev pub rows_by : Code → ℕ → ℕ → List ℕ → List (List Cell)
rows_by Short N K = digit_rows 0
rows_by Even N K = layout_rows N K
rows_by Turn N K = digit_rows 0
rows_by Round N K = block_rows N K

unfoldable pub rows_of : Catalogue → List ℕ → List (List Cell)
rows_of c query = rows_by c.code c.servers c.messages query
