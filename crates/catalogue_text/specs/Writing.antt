-- Writing catalogue text (document 01, 'Catalogue' and 'Numbers a call can give'): what the call answers, and what it leaves in the buffer (`Wrote`).
use Rattle.std.specs.Prelude.{◌≡◌, ℕ, List, [], ◌∷◌, ◌++◌, ltb, length, Ok, Err}
use Rattle.lists.specs.Parts.{put}
use Rattle.refusal.specs.Verdicts.{Verdict, Outcome}
use Rattle.refusal.specs.Foremost.{Fault, fault, foremost}
use Rattle.catalogue.specs.declared.Catalogue.{Catalogue}
use Rattle.catalogue.specs.Catalogue.{catalogue_faults}
use Rattle.catalogue_text.specs.Text.{text_of}

-- write_faults c room
abbrev pub write_faults : Catalogue → ℕ → List Fault
write_faults c room = catalogue_faults c ++ (fault 9 (ltb room (length (text_of c))) ∷ [])

unfoldable pub write_verdict : Catalogue → ℕ → Verdict
write_verdict c room = foremost (write_faults c room)

abbrev pub outcome_by : Verdict → List ℕ → Outcome
outcome_by (Ok _) text = Ok (length text)
outcome_by (Err refusal) text = Err refusal

abbrev pub buffer_by : Verdict → List ℕ → List ℕ → List ℕ
buffer_by (Ok _) text buffer = put 0 text buffer
buffer_by (Err refusal) text buffer = buffer

-- the text at the start of the buffer, whose rest stays as it was
pub record Wrote (c : Catalogue) (buffer : List ℕ) (outcome : Outcome) (after : List ℕ) : Type 0 where
  pub outcome-is : outcome ≡ outcome_by (write_verdict c (length buffer)) (text_of c)
  pub after_is : after ≡ buffer_by (write_verdict c (length buffer)) (text_of c) buffer
