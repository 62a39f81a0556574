-- One corrected byte (document 02, item 13), over the code of each catalogue: the store after it, and a saved answer brought up to date.
use Rattle.std.specs.Prelude.{ℕ, ◌+◌, ◌*◌, ◌<◌, List, get_or, set}
use Rattle.symbol.specs.Operations.{sum_of}
use Rattle.catalogue.specs.declared.Catalogue.{Catalogue}
use Rattle.codes.specs.Codes.{scheme_of}
use Rattle.correction.specs.declared.Edit.{Edit}
use Rattle.scheme.specs.Asked.{place_naming}
use Rattle.correction.specs.Moved.{shift_of, moved}
use Rattle.codes.specs.Asked.{rows_of}

-- it is of a byte of the store (no refusal 19)
pub record EditIn (c : Catalogue) (e : Edit) : Type 0 where
  pub message-in : e.message < c.messages
  pub symbol-in : e.symbol < (scheme_of c).sizes.symbols
  pub byte-in : e.byte < c.symbol

-- its place in the store
abbrev pub place_of : Catalogue → Edit → ℕ
place_of c e = (e.message * (scheme_of c).sizes.symbols + e.symbol) * c.symbol + e.byte

-- the store after it
abbrev pub corrected_store : Catalogue → Edit → List ℕ → List ℕ
corrected_store c e store = set store (place_of c e) e.value

-- a saved answer after it, from the store before it: moved where the row is answered that names the symbol, if one does
unfoldable pub corrected_answer : Catalogue → Edit → List ℕ → List ℕ → List ℕ → List ℕ
corrected_answer c e store query answer =
    moved (sum_of c.sum) c.symbol (place_naming c.symbol e.message e.symbol (rows_of c query))
    (shift_of (sum_of c.sum) c.symbol e.byte e.value (get_or store (place_of c e) 0)) answer
