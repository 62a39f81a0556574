-- What a host program in C is given (document 01, 'Session', last paragraph): the catalogue is read from its text, the day is three numbers (document
-- 02, item 1), and then the call is the answering end's (`answering_text`).
use Rattle.std.specs.Prelude.{List, ◌∷◌, ℕ, ℤ, pos, neg_ℤ, Ok, Err}
use Rattle.refusal.specs.Verdicts.{Verdict, Outcome}
use Rattle.refusal.specs.Numbers.{number_of}
use Rattle.refusal.specs.Foremost.{Fault}
use Rattle.calendar.specs.declared.Day.{Day}
use Rattle.catalogue.specs.declared.Catalogue.{Catalogue}
use Rattle.catalogue_text.specs.Parsing.{catalogue_lines, line_fault, end_fault, read_of}
use Rattle.codes.specs.Codes.{scheme_of}
use Rattle.server.specs.Answering.{Answered, answer_faults, answering}

-- an outcome as one number: its value, or minus the refusal's number
abbrev pub signed : Outcome → ℤ
signed (Ok value) = pos value
signed (Err refusal) = neg_ℤ (pos (number_of refusal))

-- the day of three numbers
abbrev pub day_of : ℕ → ℕ → ℕ → Day
day_of year month day = record { year = year; month = month; day = day }

abbrev pub answering_by : Verdict → Catalogue → Day → ℕ → List ℕ → List ℕ → List ℕ → Answered
answering_by (Ok _) c day server store query buffer = answering scheme_of c day server store query buffer
answering_by (Err refusal) c day server store query buffer = record { outcome = Err refusal; buffer = buffer }

-- answering under the catalogue whose text this is
unfoldable pub answering_text : List ℕ → Day → ℕ → List ℕ → List ℕ → List ℕ → Answered
answering_text text = let reading = read_of text in answering_by reading.verdict reading.catalogue

-- host_faults text day server stored query room: those of the text's form, then those of answering under the catalogue of its lines
abbrev pub host_faults : List ℕ → Day → ℕ → ℕ → List ℕ → ℕ → List Fault
host_faults text day server stored query room =
    line_fault text ∷ end_fault text ∷ answer_faults scheme_of (catalogue_lines text).catalogue day server stored query room

abbrev pub longest_by : Verdict → Catalogue → Outcome
longest_by (Ok _) c = Ok (scheme_of c).sizes.slot
longest_by (Err refusal) c = Err refusal

-- the longest answer under the catalogue whose text this is: a slot
unfoldable pub longest_answer : List ℕ → Outcome
longest_answer text = let reading = read_of text in longest_by reading.verdict reading.catalogue
