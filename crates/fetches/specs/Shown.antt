-- What a server is shown of fetches (`shown`), and the issues that two lists of fetches must agree on (`issues_to`): document 01, 'Lists of fetches'.
use Rattle.std.specs.Prelude.{cond, List, [], ◌∷◌, ◌++◌, map, ℕ, eqb, length, take, Ok, Err}
use Rattle.lists.specs.Sums.{keep}
use Rattle.refusal.specs.Verdicts.{Verdict, Outcome}
use Rattle.refusal.specs.declared.Refusal.{Refusal}
use Rattle.scheme.specs.Scheme.{Scheme}
use Rattle.calendar.specs.declared.Day.{Day}
use Rattle.catalogue.specs.declared.Catalogue.{Catalogue}
use Rattle.server.specs.Answering.{Answered, written_by, answering}
use Rattle.fetches.specs.Fetches.{Call, issuing, taking, recovering, Fetch, Made, history}

-- What a server is shown of an issue that names it: the refusal, whose number is `number_of` of it; or the bytes of the query, and what answering them
-- returns (a length or a refusal) and writes (nothing where it is refused)
pub data Shown : Type 0 where
  refused : (refusal : Refusal) → Shown
  asked : (query : List ℕ) (returned : Outcome) (written : List ℕ) → Shown

-- An issue as two lists of fetches must agree on it: the server, the days on which it is issued and answered, and the lengths of the query's buffer and
-- of the one that the query is answered into
pub record Issue : Type 0 where
  pub server : ℕ
  pub day : Day
  pub room : ℕ
  pub answer_day : Day
  pub answer_room : ℕ

abbrev pub issues : List Call → List Issue
issues [] = []
issues (issuing server day query answer_day answer ∷ calls) =
    record { server = server; day = day; room = length query; answer_day = answer_day; answer_room = length answer } ∷ issues calls
issues (taking server answer ∷ calls) = issues calls
issues (recovering message ∷ calls) = issues calls

-- those of a list of fetches, fetch by fetch; and of them only those that name server n
abbrev pub issues_of : List Fetch → List (List Issue)
issues_of fs = map (λ (f : Fetch). issues f.calls) fs

abbrev pub issues_to : ℕ → List Fetch → List (List Issue)
issues_to n fs = map (keep (λ (i : Issue). eqb i.server n)) (issues_of fs)

module _ (scheme_of : Catalogue → Scheme) (c : Catalogue) (store : List ℕ) where
  -- a server is asked a query, and answers it on a day, from the store into a buffer
  abbrev pub asked_and : List ℕ → Answered → Shown
  asked_and query a = asked query a.outcome (written_by a.outcome a.buffer)

  abbrev pub asking : ℕ → List ℕ → Day → List ℕ → Shown
  asking server query answer_day answer = asked_and query (answering scheme_of c answer_day server store query answer)

  -- the query is what an issue wrote at the start of its buffer
  abbrev pub showing : ℕ → List ℕ → Day → List ℕ → Verdict → Shown
  showing server left answer_day answer (Ok _) = asking server (take (scheme_of c).sizes.query left) answer_day answer
  showing server left answer_day answer (Err refusal) = refused refusal

  -- what a call that was made shows server n: the issues that name it
  abbrev pub shown_by : ℕ → Call → List ℕ → Verdict → List Shown
  shown_by n (issuing server day query answer_day answer) left verdict = cond (eqb server n) (showing server left answer_day answer verdict ∷ []) []
  shown_by n (taking server answer) left verdict = []
  shown_by n (recovering message) left verdict = []

  abbrev pub shown_to : ℕ → List Made → List Shown
  shown_to n [] = []
  shown_to n (made ∷ rest) = shown_by n made.call made.left made.verdict ++ shown_to n rest

  -- fetch by fetch and in order
  abbrev pub shown : ℕ → List Fetch → List (List Shown)
  shown n fs = map (λ (f : Fetch). shown_to n (history scheme_of c f)) fs
