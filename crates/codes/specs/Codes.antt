-- The scheme of each catalogue: the code that it names, at its numbers, over the sum that it names.
use Rattle.std.specs.Prelude.{ℕ}
use Rattle.symbol.specs.Sum.{Sum}
use Rattle.symbol.specs.Operations.{sum_of}
use Rattle.scheme.specs.Scheme.{Scheme}
use Rattle.catalogue.specs.declared.Code.{Code}
use Rattle.catalogue.specs.declared.Code.TheVariants.{Short, Even, Turn, Round}
use Rattle.catalogue.specs.declared.Catalogue.{Catalogue}
use Rattle.short_scheme.specs.Short.{short_scheme}
use Rattle.even_scheme.specs.Even.{even_scheme}
use Rattle.turn_code.specs.Turn.{turn_scheme}
use Rattle.round_scheme.specs.Round.{round_scheme}

abbrev pub scheme_by : Code → Sum → ℕ → ℕ → ℕ → Scheme
scheme_by Short = short_scheme
scheme_by Even = even_scheme
scheme_by Turn = turn_scheme
scheme_by Round = round_scheme

unfoldable pub scheme_of : Catalogue → Scheme
scheme_of c = scheme_by c.code (sum_of c.sum) c.servers c.messages c.symbol
