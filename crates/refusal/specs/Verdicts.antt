-- What a check answers, and what a call answers that gives a number: accepted, or the number; or why it is refused.
use Rattle.std.specs.Prelude.{ℕ, Result, Ok}
use Rattle.refusal.specs.declared.Refusal.{Refusal}

abbrev pub Verdict : Type 0
Verdict = Result (Unit {0}) Refusal

abbrev pub accepted : Verdict
accepted = Ok tt

abbrev pub Outcome : Type 0
Outcome = Result ℕ Refusal
