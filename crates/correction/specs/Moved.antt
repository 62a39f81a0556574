-- One byte of a symbol is changed (document 02, item 13): what that adds to every total that has the symbol, the new value less the old in the catalogue's sum
-- (`shift_of`), and an answer, right or wrong, that is moved by it at one of its symbols (`moved`).
use Rattle.std.specs.Prelude.{ℕ, List, set, Option, Some, None}
use Rattle.lists.specs.Parts.{cut, put}
use Rattle.symbol.specs.Sum.{Sum, zeros}

-- a symbol of zeros but for one byte
abbrev pub lone : ℕ → ℕ → ℕ → List ℕ
lone S byte value = set (zeros S) byte value

-- the new value less the old, each at its byte of a symbol
abbrev pub shift_of : Sum → ℕ → ℕ → ℕ → ℕ → List ℕ
shift_of by S byte new old = by.minus (lone S byte new) (lone S byte old)

-- the answer with the symbol that begins at a place moved, or as it was
unfoldable pub moved : Sum → ℕ → Option ℕ → List ℕ → List ℕ → List ℕ
moved by S None shift answer = answer
moved by S (Some at) shift answer = put at (by.plus (cut at S answer) shift) answer
