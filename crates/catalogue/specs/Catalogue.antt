-- Catalogue values: which are admitted, and the sizes that follow (document 01, 'Catalogue'; document 02, items 1, 2, 4, 6, 8 and 9).
use Rattle.std.specs.Prelude.{◌≡◌, Bool, true, not, ◌&&◌, ◌||◌, List, [], ◌∷◌, ℕ, ◌%◌, eqb, Result, Ok, Err}
use Rattle.refusal.specs.Verdicts.{Verdict, accepted}
use Rattle.refusal.specs.declared.Refusal.{Refusal}
use Rattle.refusal.specs.Foremost.{Fault, fault, foremost}
use Rattle.parameters.specs.declared.Sizes.{Sizes}
use Rattle.parameters.specs.Bounds.{short_fits, even_fits, round_fits}
use Rattle.parameters.specs.Measures.{short_sizes, even_sizes, turn_sizes, round_sizes}
use Rattle.calendar.specs.declared.Day.{Day}
use Rattle.calendar.specs.Calendar.{real_day, before, no_day, undated}
use Rattle.lengths.specs.Lengths.{no_lengths, lengths_fit}
use Rattle.symbol.specs.declared.Operation.{Operation}
use Rattle.symbol.specs.declared.Operation.TheVariants.{ExclusiveOr, Addition}
use Rattle.catalogue.specs.declared.Code.{Code}
use Rattle.catalogue.specs.declared.Code.TheVariants.{Short, Even, Turn, Round}
use Rattle.catalogue.specs.declared.Catalogue.{Catalogue}

-- N, K and S are within the bounds of the code; the turning code has the short code's (02, item 4)
abbrev pub fits : Code → ℕ → ℕ → ℕ → Bool
fits Short = short_fits
fits Even = even_fits
fits Turn = short_fits
fits Round = round_fits

-- the catalogue's numbers are within the bounds of its code
abbrev pub numbers_fit : Catalogue → Bool
numbers_fit c = fits c.code c.servers c.messages c.symbol

-- two dates that a catalogue may hold (02, item 1): none, or two real days, of which the opening comes before the closing. One date only is not such
unfoldable pub dates_fit : Day → Day → Bool
dates_fit opening closing = undated opening closing || real_day opening && (real_day closing && before opening closing)

abbrev pub sizes_by : Code → ℕ → ℕ → ℕ → Sizes
sizes_by Short = short_sizes
sizes_by Even = even_sizes
sizes_by Turn = turn_sizes
sizes_by Round = round_sizes

-- the sizes of a catalogue, from its numbers alone
unfoldable pub sizes_of : Catalogue → Sizes
sizes_of c = sizes_by c.code c.servers c.messages c.symbol

-- its lengths, if it has any, are from 1 to all the bytes of a message (02, item 6), and every place that no line fills holds 0
abbrev pub messages_end : Catalogue → Bool
messages_end c = lengths_fit c.messages (sizes_of c).message c.lengths

-- the catalogue keeps its bounds, those of its dates and lengths too
abbrev pub in_bounds : Catalogue → Bool
in_bounds c = numbers_fit c && (dates_fit c.opening c.closing && messages_end c)

-- symbols (01: pieces) of S bytes are whole words, where words are added (02, item 2)
abbrev pub whole_words : Operation → ℕ → Bool
whole_words ExclusiveOr S = true
whole_words Addition S = eqb (S % 2) 0

-- What a catalogue value can be refused with ('Numbers a call can give'); every call that has a catalogue puts these faults in front of its own.
-- One message is within every code's bounds, and is turned away by 17 (02, item 9); an odd symbol under addition by 15 (02, item 2)
abbrev pub catalogue_faults : Catalogue → List Fault
catalogue_faults c = fault 2 (not (in_bounds c)) ∷ fault 17 (eqb c.messages 1) ∷ fault 15 (not (whole_words c.sum c.symbol)) ∷ []

-- their numbers
abbrev pub catalogue_numbers : List ℕ
catalogue_numbers = 2 ∷ 17 ∷ 15 ∷ []

unfoldable pub catalogue_verdict : Catalogue → Verdict
catalogue_verdict c = foremost (catalogue_faults c)

-- admitted (01, 'Lists of fetches'; 02, items 2 and 9): none of 2, 17, 15, so that it has two messages or more; `admitted-exactly` says so in numbers
abbrev pub Admitted : Catalogue → Type 0
Admitted c = catalogue_verdict c ≡ accepted

-- sizes, or why there are none
abbrev pub Measured : Type 0
Measured = Result Sizes Refusal

abbrev measured_by : Verdict → Sizes → Measured
measured_by (Ok _) sizes = Ok sizes
measured_by (Err refusal) sizes = Err refusal

-- the sizes, or why the catalogue is refused
unfoldable pub measured_of : Catalogue → Measured
measured_of c = measured_by (catalogue_verdict c) (sizes_of c)

-- what a refused reading hands back: zeros, in the places of dates and lengths too, the code short, the sum exclusive or
abbrev pub zero_catalogue : Catalogue
zero_catalogue =
    record { code = Short; sum = ExclusiveOr; opening = no_day; closing = no_day; lengths = no_lengths; servers = 0; messages = 0; symbol = 0 }
