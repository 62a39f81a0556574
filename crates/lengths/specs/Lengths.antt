-- Where the messages of a catalogue end (document 02, item 6: `length=` lines): a mark that says whether there are lines, and 32 places for lengths.
use Rattle.std.specs.Prelude.{ℕ, Bool, false, cond, ◌&&◌, List, [], leb, ltb, eqb, length, get_or, take, replicate}
use Rattle.lists.specs.Ranges.{every}
use Rattle.lengths.specs.declared.Lengths.{Lengths}

-- as many places as a catalogue can have messages (01: packs)
abbrev pub length_places : ℕ
length_places = 32

-- no lines: the mark is not set, and all places hold 0
unfoldable pub no_lengths : Lengths
no_lengths = record { given = false; places = replicate length_places 0 }

-- a line fills the place: there are lines, and the place is that of one of K messages
abbrev pub filled : Bool → ℕ → ℕ → Bool
filled given K place = given && ltb place K

-- a length: from 1 to all bytes of a message's symbols
abbrev pub is_length : ℕ → ℕ → Bool
is_length whole n = leb 1 n && leb n whole

-- what a place may hold, of K messages of `whole` bytes each: a length where a line fills it, and else 0
abbrev pub place_fits : Bool → ℕ → ℕ → ℕ → ℕ → Bool
place_fits given K whole place n = cond (filled given K place) (is_length whole n) (eqb n 0)

-- all places, of which there are 32
unfoldable pub lengths_fit : ℕ → ℕ → Lengths → Bool
lengths_fit K whole l =
    eqb (length l.places) length_places && every length_places (λ place. place_fits l.given K whole place (get_or l.places place 0))

-- the bytes of message k (01: pack k), whose symbols have `whole` bytes together: its length, and without lines all of them
unfoldable pub length_of : Lengths → ℕ → ℕ → ℕ
length_of l whole k = cond l.given (get_or l.places k 0) whole

-- the numbers of the lines, of K messages
unfoldable pub numbers_of : ℕ → Lengths → List ℕ
numbers_of K l = cond l.given (take K l.places) []
