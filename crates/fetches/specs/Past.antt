-- What the calls made so far say (document 01, 'Lists of fetches'): the servers that a query was issued to, and those whose answers were taken.
-- It goes by the calls and their verdicts alone, and not by the session's marks.
use Rattle.std.specs.Prelude.{List, [], ◌∷◌, ℕ, Ok, Err}
use Rattle.fetches.specs.Fetches.{Call, issuing, taking, recovering, Made}
use Rattle.refusal.specs.Verdicts.{Verdict}

pub record Past : Type 0 where
  pub issued : List ℕ
  pub taken : List ℕ

-- before the first call
abbrev pub nothing : Past
nothing = record { issued = []; taken = [] }

-- one server more after an issue or a take that was not refused
abbrev pub past_by : Call → Verdict → Past → Past
past_by (issuing server day query answer_day answer) (Ok _) past = record { issued = server ∷ past.issued; taken = past.taken }
past_by (issuing server day query answer_day answer) (Err refusal) past = past
past_by (taking server answer) (Ok _) past = record { issued = past.issued; taken = server ∷ past.taken }
past_by (taking server answer) (Err refusal) past = past
past_by (recovering message) verdict past = past

abbrev pub since : Past → Made → Past
since past made = past_by made.call made.verdict past

-- P holds of each call that was made, with what the calls before it say
pub data Throughout (P : Past → Made → Type 0) : Past → List Made → Type 0 where
  end : {past : Past} → Throughout P past []
  step : {past : Past} {made : Made} {rest : List Made} → P past made → Throughout P (since past made) rest → Throughout P past (made ∷ rest)
