-- A session's key has as many places as its type says: `key-places`.
use mathlib.Core.Path.{◌≡◌}
use mathlib.Core.List.{List}
use borrow.Author.Rules.{rules}
use denote.Laws.{Is}
use denote.Struct.Declared.{row}
use lib.ListN.{length}
use mir.Val.{Val}
use Rattle.parameters.specs.Measures.{key_places}
use Rattle.session.specs.declared.Session.{Session}
use Rattle.session.specs.contracts.Session.{the_type}

pub key-places : (s : Session) (values : List Val) → Is (row the_type) s values → length s.key ≡ key_places
key-places s values good = search rules
