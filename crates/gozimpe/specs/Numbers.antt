-- The numbers that the calls from C can give (document 01, 'Numbers a call can give'), for every input; the result is minus the number.
use Rattle.std.specs.Prelude.{List, ◌∷◌, ℕ}
use Rattle.refusal.specs.Within.{Within, ValueWithin}
use Rattle.calendar.specs.declared.Day.{Day}
use Rattle.catalogue.specs.Catalogue.{catalogue_numbers}
use Rattle.server.specs.Numbers.{answer_numbers}
use Rattle.correction.specs.declared.Edit.{Edit}
use Rattle.correction.specs.Calls.{correct_numbers}
use Rattle.gozimpe.specs.Host.{answering_text, longest_answer}
use Rattle.gozimpe.specs.Correcting.{correcting_text, correcting_answer_text}

pub record HostNumbers : Type 0 where
  pub answers : (text : List ℕ) (day : Day) (server : ℕ) (store query buffer : List ℕ)
      → ValueWithin (1 ∷ answer_numbers) (answering_text text day server store query buffer).outcome
  pub longest : (text : List ℕ) → ValueWithin (1 ∷ catalogue_numbers) (longest_answer text)

-- the same of the calls that correct a byte (document 02, item 13)
pub record CorrectingNumbers : Type 0 where
  pub corrects : (text : List ℕ) (server : ℕ) (store query : List ℕ) (e : Edit) (answer : List ℕ)
      → Within (1 ∷ correct_numbers) (correcting_text text server store query e answer).verdict
  pub corrects-answer : (text : List ℕ) (server : ℕ) (store query : List ℕ) (e : Edit) (answer : List ℕ)
      → Within (1 ∷ correct_numbers) (correcting_answer_text text server store query e answer).verdict
