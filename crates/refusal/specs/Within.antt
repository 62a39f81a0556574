-- Which numbers a call can give (document 01, 'Numbers a call can give'): a refusal that it gives has one of them.
use Rattle.std.specs.Prelude.{◌≡◌, true, List, ℕ, Err}
use Rattle.lists.specs.Distinct.{stands}
use Rattle.refusal.specs.Verdicts.{Verdict, Outcome}
use Rattle.refusal.specs.declared.Refusal.{Refusal}
use Rattle.refusal.specs.Numbers.{number_of}

-- the refusal has one of the numbers
unfoldable pub OneOf : List ℕ → Refusal → Type 0
OneOf numbers refusal = stands (number_of refusal) numbers ≡ true

-- of a verdict
abbrev pub Within : List ℕ → Verdict → Type 0
Within numbers verdict = (refusal : Refusal) → verdict ≡ Err refusal → OneOf numbers refusal

-- of an outcome
abbrev pub ValueWithin : List ℕ → Outcome → Type 0
ValueWithin numbers outcome = (refusal : Refusal) → outcome ≡ Err refusal → OneOf numbers refusal
