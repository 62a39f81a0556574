-- The lines of a catalogue's lengths, `length=` (document 02, item 6): one for each message, in their order, or none. Written, and read at a place of
-- a text.
use Rattle.std.specs.Prelude.{ℕ, zero, suc, ◌^◌, ◌≡◌, true, cond, List, [], ◌∷◌, ◌++◌, ◌⊎◌, length, take, drop, Option, Some, None}
use Rattle.lists.specs.Ascii.{ascii}
use Rattle.lists.specs.Below.{Below}
use Rattle.lists.specs.Padded.{padded}
use Rattle.text_lines.specs.declared.Line.{Line}
use Rattle.text_lines.specs.Lines.{number_text, begins, line_of, on_line, number_line}
use Rattle.lengths.specs.declared.Lengths.{Lengths}
use Rattle.lengths.specs.Lengths.{length_places, no_lengths}
use Rattle.length_text.specs.declared.LengthLines.{LengthLines}

abbrev pub length_name : List ℕ
length_name = ascii "length="

-- at most seven digits
abbrev pub length_digits : ℕ
length_digits = 7

-- the lines of these numbers
unfoldable pub length_text : List ℕ → List ℕ
length_text [] = []
length_text (n ∷ ns) = number_text length_name n ++ length_text ns

-- Numbers that the lines of a text with K messages can have: none or K of them, each with at most seven digits. K is the number that the text has, in
-- its bounds or not
pub record InForm (K : ℕ) (ns : List ℕ) : Type 0 where
  pub count : (ns ≡ []) ⊎ (length ns ≡ K)
  pub small : Below (10 ^ length_digits) ns

-- What a value keeps of them: the mark, the first 32, and 0 in the other places. Of more than 32 numbers it cannot hold the rest
unfoldable pub kept : List ℕ → Lengths
kept [] = no_lengths
kept (n ∷ ns) = record { given = true; places = padded length_places (take length_places (n ∷ ns)) }

-- ---- read

-- a number in front of the others
abbrev pub in_front : ℕ → Option (Line (List ℕ)) → Option (Line (List ℕ))
in_front n (Some ns) = Some (line_of (n ∷ ns.value) ns.next)
in_front n None = None

-- the numbers of so many lines at a place, and the place behind them; or some line is not there or not in its form
unfoldable pub numbers_at : ℕ → List ℕ → ℕ → Option (Line (List ℕ))
numbers_at zero text at = Some (line_of [] at)
numbers_at (suc count) text at =
    on_line (number_line length_digits length_name text at) λ n next. in_front n (numbers_at count text next)

-- lines of which a value keeps these lengths, and the place behind them
abbrev pub lines : Lengths → ℕ → LengthLines
lines l next = record { lengths = l; next = next }

abbrev pub kept_lines : Option (Line (List ℕ)) → Option LengthLines
kept_lines (Some ns) = Some (lines (kept ns.value) ns.next)
kept_lines None = None

-- behind the lines no further one may begin: they are as many as the messages
abbrev pub ended : List ℕ → Option LengthLines → Option LengthLines
ended text (Some found) = cond (begins length_name (drop found.next text)) None (Some found)
ended text None = None

-- The lines at place `at` of a text with K messages. Where no line of that name begins, there are none
unfoldable pub length_lines : ℕ → List ℕ → ℕ → Option LengthLines
length_lines K text at =
    cond (begins length_name (drop at text)) (ended text (kept_lines (numbers_at K text at))) (Some (lines no_lengths at))
