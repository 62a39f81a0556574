-- Verdicts as chains of checks, the form that code follows: the first link that refuses decides.
use Rattle.std.specs.Prelude.{ℕ, Bool, true, false, cond, List, [], ◌∷◌, Ok, Err}
use Rattle.refusal.specs.Verdicts.{Verdict, accepted}
use Rattle.refusal.specs.Numbers.{refusal_of}
use Rattle.refusal.specs.Foremost.{Fault}

-- refused with a number of the table
abbrev pub refused : ℕ → Verdict
refused number = Err (refusal_of number)

-- a link: refused with this number if the fault is there, else as the rest of the chain says
abbrev pub refuse_if : Bool → ℕ → Verdict → Verdict
refuse_if there number rest = cond there (refused number) rest

-- whether a verdict refuses
abbrev pub refuses : Verdict → Bool
refuses (Ok _) = false
refuses (Err refusal) = true

-- a verdict as a link: its refusal, else as the rest of the chain says
abbrev pub and_then : Verdict → Verdict → Verdict
and_then (Ok _) rest = rest
and_then (Err refusal) rest = Err refusal

-- faults checked one after another
abbrev pub chain : List Fault → Verdict
chain [] = accepted
chain (f ∷ faults) = cond f.there (Err f.refusal) (chain faults)
