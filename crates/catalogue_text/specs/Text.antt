-- A catalogue's text: four lines, each ended by byte 10 (document 01, 'Catalogue'), then two with its dates, if it has any, one more where words are
-- added, and one for each message's length, if it has lengths (document 02, items 1, 2 and 6). The first names one of four codes (02, items 4
-- and 8).
use Rattle.std.specs.Prelude.{ℕ, ◌<◌, ◌≡◌, Bool, true, false, ◌&&◌, ◌||◌, List, [], ◌∷◌, ◌++◌}
use Rattle.lists.specs.Ascii.{ascii}
use Rattle.symbol.specs.declared.Operation.{Operation}
use Rattle.symbol.specs.declared.Operation.TheVariants.{ExclusiveOr, Addition}
use Rattle.catalogue.specs.declared.Code.{Code}
use Rattle.catalogue.specs.declared.Code.TheVariants.{Short, Even, Turn, Round}
use Rattle.catalogue.specs.declared.Catalogue.{Catalogue}
use Rattle.text_lines.specs.Lines.{number_text, begins}
use Rattle.season_text.specs.SeasonLines.{in_form, season_text, dates_go_on}
use Rattle.lengths.specs.Lengths.{numbers_of}
use Rattle.length_text.specs.LengthLines.{length_name, length_text, InForm, kept}

-- the first line; the third code is that of document 02, item 4, the fourth that of item 8
abbrev pub code_text : Code → List ℕ
code_text Short = ascii "code=short\n"
code_text Even = ascii "code=even\n"
code_text Turn = ascii "code=turn\n"
code_text Round = ascii "code=round\n"

-- the names of N, K and S (01: mirrors, packs, piece)
abbrev pub servers_name : List ℕ
servers_name = ascii "mirrors="

abbrev pub messages_name : List ℕ
messages_name = ascii "packs="

abbrev pub symbol_name : List ℕ
symbol_name = ascii "piece="

-- the name of the sum's line
abbrev pub sum_name : List ℕ
sum_name = ascii "sum="

-- the line of the sum; exclusive or has none
abbrev pub sum_text : Operation → List ℕ
sum_text ExclusiveOr = []
sum_text Addition = ascii "sum=add\n"

-- the lines in front of those of its lengths
unfoldable pub head_text : Catalogue → List ℕ
head_text c =
    code_text c.code
    ++ (number_text servers_name c.servers
    ++ (number_text messages_name c.messages
    ++ (number_text symbol_name c.symbol ++ (season_text c.opening c.closing ++ sum_text c.sum))))

-- A catalogue's lines with lines of these lengths. They are numbers beside the value, since a text can have more of them than a value can hold
abbrev pub text_with : Catalogue → List ℕ → List ℕ
text_with c ns = head_text c ++ length_text ns

-- the numbers of its own lengths
abbrev pub own_numbers : Catalogue → List ℕ
own_numbers c = numbers_of c.messages c.lengths

-- the catalogue's lines
unfoldable pub text_of : Catalogue → List ℕ
text_of c = text_with c (own_numbers c)

-- ---- where a catalogue's text ends: a reader sees what comes by its name

-- there is no line of the sum
abbrev pub unsummed : Operation → Bool
unsummed ExclusiveOr = true
unsummed Addition = false

-- there is no line of a length
abbrev pub unmeasured : List ℕ → Bool
unmeasured [] = true
unmeasured (n ∷ ns) = false

-- What stands behind the lines in front of the lengths goes on with them: there is no line of the sum, and one begins, or there are no dates either, and
-- a line of one begins
abbrev pub head_goes_on : Catalogue → List ℕ → Bool
head_goes_on c rest = unsummed c.sum && (begins sum_name rest || dates_go_on c.opening c.closing rest)

-- What stands behind the text of a catalogue goes on with it: a line of a length begins, or there is no such line, and what is in front goes on
abbrev pub goes_on : Catalogue → List ℕ → List ℕ → Bool
goes_on c ns rest = begins length_name rest || unmeasured ns && head_goes_on c rest

-- the catalogue's text ends where the rest begins
abbrev pub Ends : Catalogue → List ℕ → List ℕ → Type 0
Ends c ns rest = goes_on c ns rest ≡ false

-- A value and lengths that a text can hold: N, K and S have at most five digits, there are no dates, or two real ones, and no lengths, or K of them,
-- of which the value has what it can keep. It need not be within its bounds
pub record Writable (c : Catalogue) (ns : List ℕ) : Type 0 where
  pub servers : c.servers < 100000
  pub messages : c.messages < 100000
  pub symbol : c.symbol < 100000
  pub dates : in_form c.opening c.closing ≡ true
  pub lengths : InForm c.messages ns
  pub kept-are : c.lengths ≡ kept ns
