-- The calls of a correction from C (document 02, item 13): the catalogue is read from its text, the edit is four numbers, and then the call is the correction
-- (`correcting_text`; `correcting_answer_text` for the saved answer alone).
use Rattle.std.specs.Prelude.{List, ◌∷◌, ℕ, ℤ, pos, neg_ℤ, Ok, Err}
use Rattle.refusal.specs.Verdicts.{Verdict}
use Rattle.refusal.specs.Numbers.{number_of}
use Rattle.refusal.specs.Foremost.{Fault}
use Rattle.catalogue.specs.declared.Catalogue.{Catalogue}
use Rattle.catalogue_text.specs.Parsing.{catalogue_lines, line_fault, end_fault, read_of}
use Rattle.correction.specs.declared.Edit.{Edit}
use Rattle.correction.specs.Calls.{Corrected, correct_faults, correcting, correcting_answer}

-- a verdict as one number: 0, or minus the refusal's number
abbrev pub signed_verdict : Verdict → ℤ
signed_verdict (Ok _) = pos 0
signed_verdict (Err refusal) = neg_ℤ (pos (number_of refusal))

-- the edit of four numbers
abbrev pub edit_of : ℕ → ℕ → ℕ → ℕ → Edit
edit_of pack piece byte value = record { message = pack; symbol = piece; byte = byte; value = value }

-- a text that is refused ends the call, and nothing is written
abbrev pub correcting_by : Verdict → Catalogue → (Catalogue → Corrected) → List ℕ → List ℕ → Corrected
correcting_by (Ok _) c call store answer = call c
correcting_by (Err refusal) c call store answer = record { verdict = Err refusal; store = store; answer = answer }

-- a correction under the catalogue whose text this is
unfoldable pub correcting_text : List ℕ → ℕ → List ℕ → List ℕ → Edit → List ℕ → Corrected
correcting_text text server store query e answer =
    let reading = read_of text in
    correcting_by reading.verdict reading.catalogue (λ c. correcting c server store query e answer) store answer

unfoldable pub correcting_answer_text : List ℕ → ℕ → List ℕ → List ℕ → Edit → List ℕ → Corrected
correcting_answer_text text server store query e answer =
    let reading = read_of text in
    correcting_by reading.verdict reading.catalogue (λ c. correcting_answer c server store query e answer) store answer

-- text_faults text server stored query edit saved: those of the text's form, then those of a correction under the catalogue of its lines
abbrev pub text_faults : List ℕ → ℕ → ℕ → List ℕ → Edit → ℕ → List Fault
text_faults text server stored query e saved =
    line_fault text ∷ end_fault text ∷ correct_faults (catalogue_lines text).catalogue server stored query e saved
