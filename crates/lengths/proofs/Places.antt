-- Lengths have as many places as their type says: `places-long`.
use mathlib.Core.Path.{◌≡◌}
use mathlib.Core.List.{List}
use borrow.Author.Rules.{rules}
use denote.Laws.{Is}
use denote.Struct.Declared.{row}
use lib.ListN.{length}
use mir.Val.{Val}
use Rattle.lengths.specs.declared.Lengths.{Lengths}
use Rattle.lengths.specs.Lengths.{length_places}
use Rattle.lengths.specs.contracts.Lengths.{the_type}

pub places-long : (l : Lengths) (values : List Val) → Is (row the_type) l values → length l.places ≡ length_places
places-long l values good = search rules
