-- Of several faults the one that is given (document 01, 'Numbers a call can give': several apply), in whatever order they are listed: `foremost`.
-- The crates above list each call's faults, and its verdict is the foremost of them.
use Rattle.std.specs.Prelude.{ℕ, Bool, cond, List, [], ◌∷◌, leb, Ok, Err}
use Rattle.refusal.specs.Verdicts.{Verdict, accepted}
use Rattle.refusal.specs.declared.Refusal.{Refusal}
use Rattle.refusal.specs.Numbers.{refusal_of, rank}

-- A line of the table of numbers: whether its condition holds, and what is refused then
pub record Fault : Type 0 where
  pub there : Bool
  pub refusal : Refusal

-- a number, and whether its condition holds
abbrev pub fault : ℕ → Bool → Fault
fault number there = record { there = there; refusal = refusal_of number }

-- of a refusal and a verdict, the one of lower rank
abbrev pub earlier : Refusal → Verdict → Verdict
earlier refusal (Ok _) = Err refusal
earlier refusal (Err other) = cond (leb (rank refusal) (rank other)) (Err refusal) (Err other)

-- accepted if no fault is there, else refused with the first by rank of those that are
unfoldable pub foremost : List Fault → Verdict
foremost [] = accepted
foremost (f ∷ faults) = cond f.there (earlier f.refusal (foremost faults)) (foremost faults)
