-- Reading catalogue text (document 01, 'Catalogue' and 'Numbers a call can give'; document 02, items 1, 2, 4, 6 and 8): each line yields its value and
-- where the next line begins, or ends the reading. `read_of` is the reading of a whole text, `lines_of` that of its start.
use Rattle.std.specs.Prelude.{ℕ, ◌+◌, cond, not, List, ◌∷◌, eqb, length, drop, Option, Some, None, Ok, Err}
use Rattle.refusal.specs.Verdicts.{Verdict, accepted}
use Rattle.refusal.specs.declared.Refusal.{Refusal}
use Rattle.refusal.specs.Numbers.{refusal_of}
use Rattle.refusal.specs.Foremost.{Fault, fault, foremost}
use Rattle.refusal.specs.Chain.{refuses}
use Rattle.symbol.specs.declared.Operation.{Operation}
use Rattle.symbol.specs.declared.Operation.TheVariants.{ExclusiveOr, Addition}
use Rattle.catalogue.specs.declared.Code.{Code}
use Rattle.catalogue.specs.declared.Code.TheVariants.{Short, Even, Turn, Round}
use Rattle.catalogue.specs.declared.Catalogue.{Catalogue}
use Rattle.catalogue.specs.Catalogue.{catalogue_faults, zero_catalogue}
use Rattle.text_lines.specs.declared.Line.{Line}
use Rattle.text_lines.specs.Lines.{begins, line_of, on_line, number_line}
use Rattle.calendar.specs.declared.Day.{Day}
use Rattle.season_text.specs.declared.Season.{Season}
use Rattle.season_text.specs.SeasonLines.{season_lines}
use Rattle.lengths.specs.declared.Lengths.{Lengths}
use Rattle.length_text.specs.declared.LengthLines.{LengthLines}
use Rattle.length_text.specs.LengthLines.{length_lines}
use Rattle.catalogue_text.specs.declared.First.{First}
use Rattle.catalogue_text.specs.declared.Lines.{Lines}
use Rattle.catalogue_text.specs.declared.Reading.{Reading}
use Rattle.catalogue_text.specs.Text.{code_text, servers_name, messages_name, symbol_name, sum_name, sum_text}

-- the first line, by its code: short, even, turning (02, item 4) or round (item 8)
unfoldable pub code_line : List ℕ → Option (Line Code)
code_line text =
    cond (begins (code_text Short) text) (Some (line_of Short (length (code_text Short))))
    (cond (begins (code_text Even) text) (Some (line_of Even (length (code_text Even))))
    (cond (begins (code_text Turn) text) (Some (line_of Turn (length (code_text Turn))))
    (cond (begins (code_text Round) text) (Some (line_of Round (length (code_text Round)))) None)))

-- The line of the sum at place `at`. Where no line of that name begins, there is none, and the sum is exclusive or; one with another value than
-- addition's is none of a catalogue's (02, item 2)
unfoldable pub sum_line : List ℕ → ℕ → Option (Line Operation)
sum_line text at =
    let rest = drop at text in
    cond (begins sum_name rest) (cond (begins (sum_text Addition) rest) (Some (line_of Addition (at + length (sum_text Addition)))) None)
    (Some (line_of ExclusiveOr at))

-- ---- the four lines of document 01

abbrev pub first_of : Code → ℕ → ℕ → ℕ → ℕ → First
first_of code N K S next = record { code = code; servers = N; messages = K; symbol = S; next = next }

unfoldable pub first_lines : List ℕ → Option First
first_lines text =
    on_line (code_line text) λ code a.
    on_line (number_line 5 servers_name text a) λ N b.
    on_line (number_line 5 messages_name text b) λ K d.
    on_line (number_line 5 symbol_name text d) λ S e.
    Some (first_of code N K S e)

-- ---- all lines

-- a refused reading holds zeros, in the places of dates and lengths too, its code short, its sum exclusive or
abbrev pub refused_lines : Refusal → Lines
refused_lines refusal = record { verdict = Err refusal; catalogue = zero_catalogue; next = 0 }

-- what was read and the next place go on, or the reading ends
abbrev pub after_first : Option First → (Code → ℕ → ℕ → ℕ → ℕ → Lines) → Lines
after_first (Some first) continue = continue first.code first.servers first.messages first.symbol first.next
after_first None continue = refused_lines (refusal_of 1)

abbrev pub after_season : Option Season → (Day → Day → ℕ → Lines) → Lines
after_season (Some season) continue = continue season.opening season.closing season.next
after_season None continue = refused_lines (refusal_of 1)

abbrev pub after_sum : Option (Line Operation) → (Operation → ℕ → Lines) → Lines
after_sum (Some sum) continue = continue sum.value sum.next
after_sum None continue = refused_lines (refusal_of 1)

abbrev pub after_lengths : Option LengthLines → (Lengths → ℕ → Lines) → Lines
after_lengths (Some found) continue = continue found.lengths found.next
after_lengths None continue = refused_lines (refusal_of 1)

abbrev pub catalogue_of : Code → ℕ → ℕ → ℕ → Day → Day → Operation → Lengths → Catalogue
catalogue_of code N K S opening closing sum lengths =
    record { code = code; sum = sum; opening = opening; closing = closing; lengths = lengths; servers = N; messages = K; symbol = S }

-- The catalogue's lines at the start of a text, in any bounds. There are as many lengths as the line of K says, or none
unfoldable pub catalogue_lines : List ℕ → Lines
catalogue_lines text =
    after_first (first_lines text) λ code N K S e.
    after_season (season_lines text e) λ opening closing f.
    after_sum (sum_line text f) λ sum g.
    after_lengths (length_lines K text g) λ lengths h.
    record { verdict = accepted; catalogue = catalogue_of code N K S opening closing sum lengths; next = h }

-- a line is not there or not in its form
abbrev pub line_fault : List ℕ → Fault
line_fault text = fault 1 (refuses (catalogue_lines text).verdict)

-- a byte follows the last line
abbrev pub end_fault : List ℕ → Fault
end_fault text = fault 1 (not (eqb (catalogue_lines text).next (length text)))

abbrev pub lines_by : Verdict → Lines → Lines
lines_by (Ok _) found = found
lines_by (Err refusal) found = refused_lines refusal

abbrev pub lines_faults : List ℕ → List Fault
lines_faults text = line_fault text ∷ catalogue_faults (catalogue_lines text).catalogue

-- the catalogue's lines at the start of a text, if the catalogue is admitted
unfoldable pub lines_of : List ℕ → Lines
lines_of text = lines_by (foremost (lines_faults text)) (catalogue_lines text)

-- a refused reading of a whole text holds zeros, too
abbrev pub unread : Refusal → Reading
unread refusal = record { verdict = Err refusal; catalogue = zero_catalogue }

abbrev pub reading_by : Verdict → Catalogue → Reading
reading_by (Ok _) c = record { verdict = accepted; catalogue = c }
reading_by (Err refusal) c = unread refusal

abbrev pub read_faults : List ℕ → List Fault
read_faults text = line_fault text ∷ end_fault text ∷ catalogue_faults (catalogue_lines text).catalogue

-- the catalogue's lines as a whole text
unfoldable pub read_of : List ℕ → Reading
read_of text = reading_by (foremost (read_faults text)) (catalogue_lines text).catalogue
