-- The eight accesses that answer one query, computed (README.md has the same run): N = 2, K = 2, S = 1, messages 5A and C3 (hex), server 0, query 1 1. What
-- the four reads show is `eight-accesses`; the line is up from the start (`interrupted`) until the flag is cleared (`quiet-again`).
use mathlib.Core.Path.{◌≡◌, refl}
use mathlib.Core.Bool.{true, false}
use mathlib.Core.List.{List, [], ◌∷◌, ◌++◌}
use Prim.Native.Nat.{ℕ}
use Rattle.lists.specs.Below.{all_below}
use Rattle.lists.specs.Ranges.{range, every}
use Rattle.refusal.specs.Foremost.{foremost}
use Rattle.parameters.specs.Bounds.{short_fits}
use Rattle.parameters.specs.Measures.{short_sizes}
use Rattle.symbol.specs.Sum.{total, total_from}
use Rattle.symbol.specs.Xor.{xor_bytes}
use Rattle.symbol.specs.declared.Operation.TheVariants.{ExclusiveOr}
use Rattle.calendar.specs.Calendar.{no_day, is_none, undated}
use Rattle.lengths.specs.Lengths.{no_lengths, lengths_fit}
use Rattle.catalogue.specs.declared.Catalogue.{Catalogue}
use Rattle.catalogue.specs.declared.Code.TheVariants.{Short}
use Rattle.catalogue.specs.Catalogue.{dates_fit, sizes_of, catalogue_verdict}
use Rattle.short_scheme.specs.Short.{digit_sum, short_admits, short_answer_length, named, short_answer}
use Rattle.codes.specs.Codes.{scheme_of}
use Rattle.server.specs.Answering.{answer_verdict, answering}
use Rattle.answer_unit.specs.declared.AnswerUnit.{AnswerUnit}
use Rattle.answer_unit.specs.Unit.{fresh}
use Rattle.answer_unit.specs.Registers.{shown, after_read, append, acknowledge, answer_of, start, control, after_write, line}
use Rattle.answer_unit.specs.Registers.{unit_takes, set_up_verdict, set_up, access_verdict, read_register, write_register}
use Rattle.unit_laws.specs.Runs.{Access, reading, writing, after, run, asking}

abbrev small : Catalogue
small = record { code = Short; sum = ExclusiveOr; opening = no_day; closing = no_day; lengths = no_lengths; servers = 2; messages = 2; symbol = 1 }

abbrev stored : List ℕ
stored = 90 ∷ 195 ∷ []

-- the query is written and started, with the interrupt enabled; then flag, number, status and answer are read, and the flag is cleared
abbrev first : List Access
first = asking (1 ∷ 1 ∷ []) 3 stored

abbrev others : List Access
others = reading 5 stored ∷ reading 4 stored ∷ reading 1 stored ∷ reading 3 stored ∷ writing 5 1 stored ∷ []

-- the bytes that the reads of a run give
abbrev byte_by : AnswerUnit → Access → List ℕ
byte_by u (reading register store) = (read_register u register store).byte ∷ []
byte_by u (writing register value store) = []

unfoldable pub bytes_read : AnswerUnit → List Access → List ℕ
bytes_read u [] = []
bytes_read u (access ∷ accesses) = byte_by u access ++ bytes_read (after u access) accesses

pub eight-accesses : bytes_read (set_up small 0).unit (first ++ others) ≡ 1 ∷ 0 ∷ 1 ∷ 153 ∷ []
unfolding foremost all_below range every short_fits short_sizes total total_from xor_bytes is_none undated dates_fit no_lengths lengths_fit sizes_of catalogue_verdict
    digit_sum short_admits short_answer_length named short_answer scheme_of answer_verdict answering fresh unit_takes set_up_verdict set_up access_verdict shown after_read
    read_register append acknowledge answer_of start control after_write write_register run bytes_read
eight-accesses = refl

pub interrupted : line (run (set_up small 0).unit first) ≡ true
unfolding foremost all_below range every short_fits short_sizes total total_from xor_bytes is_none undated dates_fit no_lengths lengths_fit sizes_of catalogue_verdict
    digit_sum short_admits short_answer_length named short_answer scheme_of answer_verdict answering fresh unit_takes set_up_verdict set_up access_verdict
    append answer_of start control after_write write_register run
interrupted = refl

pub quiet-again : line (run (set_up small 0).unit (first ++ others)) ≡ false
unfolding foremost all_below range every short_fits short_sizes total total_from xor_bytes is_none undated dates_fit no_lengths lengths_fit sizes_of catalogue_verdict
    digit_sum short_admits short_answer_length named short_answer scheme_of answer_verdict answering fresh unit_takes set_up_verdict set_up access_verdict shown after_read
    read_register append acknowledge answer_of start control after_write write_register run
quiet-again = refl
