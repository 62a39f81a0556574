-- What a session's meters say (document 02, item 5): for each server, the sums over the calls made since begin (`Metered`); and the calls that two fetches
-- must agree on for the meters of a server to agree (`MetersAgree`).
use Rattle.std.specs.Prelude.{◌≡◌, cond, List, [], ◌∷◌, ℕ, ◌+◌, ◌≤◌, eqb, length, take, Ok, Err}
use Rattle.lists.specs.Sums.{keep_if}
use Rattle.scheme.specs.Scheme.{Scheme}
use Rattle.calendar.specs.declared.Day.{Day}
use Rattle.refusal.specs.Verdicts.{Verdict}
use Rattle.catalogue.specs.declared.Catalogue.{Catalogue}
use Rattle.session_parts.specs.Meters.{most_bytes, counted}
use Rattle.fetches.specs.Fetches.{Call, issuing, taking, recovering, Fetch, State, Made, history, start, ended}

-- The two meters of a server: the bytes of the queries issued to it, and of the answers taken from it
pub record Meter : Type 0 where
  pub sent : ℕ
  pub got : ℕ

-- those in a state of a fetch
abbrev pub meters_at : ℕ → State → Meter
meters_at n at = record { sent = counted at.session.meters.sent n; got = counted at.session.meters.got n }

-- the bytes that a call took from server n: of its answer, if it was not refused
abbrev pub got_by : ℕ → Call → Verdict → ℕ
got_by n (issuing server day query answer_day answer) verdict = 0
got_by n (taking server answer) (Ok _) = cond (eqb server n) (length answer) 0
got_by n (taking server answer) (Err refusal) = 0
got_by n (recovering message) verdict = 0

abbrev pub got : ℕ → List Made → ℕ
got n [] = 0
got n (made ∷ rest) = got_by n made.call made.verdict + got n rest

-- A call that names a server, as two fetches must agree on it: its kind, its days and the lengths of all that it is lent
pub data Named : Type 0 where
  issue_to : (day : Day) (room : ℕ) (answer_day : Day) (answer_room : ℕ) → Named
  take_from : (size room : ℕ) → Named

-- those that name server n, in a fetch with an answer buffer of `room` bytes
abbrev pub named : ℕ → ℕ → List Call → List Named
named n room [] = []
named n room (issuing server day query answer_day answer ∷ calls) =
    keep_if (eqb server n) (issue_to day (length query) answer_day (length answer)) (named n room calls)
named n room (taking server answer ∷ calls) = keep_if (eqb server n) (take_from (length answer) room) (named n room calls)
named n room (recovering message ∷ calls) = named n room calls

abbrev pub calls_to : ℕ → Fetch → List Named
calls_to n f = named n (length f.answers) f.calls

-- two lists of fetches, fetch by fetch: P holds of the first ones, of the second ones, and so on, and there are as many
pub data Alongside (P : Fetch → Fetch → Type 0) : List Fetch → List Fetch → Type 0 where
  no-pair : Alongside P [] []
  pair : {f g : Fetch} {fs gs : List Fetch} → P f g → Alongside P fs gs → Alongside P (f ∷ fs) (g ∷ gs)

module _ (scheme_of : Catalogue → Scheme) (c : Catalogue) where
  -- the bytes that a call issued to server n: of the query that it left at the start of its buffer, if it was not refused
  abbrev pub sent_by : ℕ → Call → List ℕ → Verdict → ℕ
  sent_by n (issuing server day query answer_day answer) left (Ok _) = cond (eqb server n) (length (take (scheme_of c).sizes.query left)) 0
  sent_by n (issuing server day query answer_day answer) left (Err refusal) = 0
  sent_by n (taking server answer) left verdict = 0
  sent_by n (recovering message) left verdict = 0

  abbrev pub sent : ℕ → List Made → ℕ
  sent n [] = 0
  sent n (made ∷ rest) = sent_by n made.call made.left made.verdict + sent n rest

  -- the meters of server n at the end of a fetch's calls
  abbrev pub meters_of : ℕ → Fetch → Meter
  meters_of n f = meters_at n (ended scheme_of (start scheme_of c f) f.calls)

  -- whatever the calls are, they are the sums over them; and no sum passes what a meter can say
  pub record Metered (f : Fetch) (n : ℕ) : Type 0 where
    pub sums : meters_of n f ≡ record { sent = sent n (history scheme_of c f); got = got n (history scheme_of c f) }
    pub sent-fits : sent n (history scheme_of c f) ≤ most_bytes

  -- two fetches in which the calls that name server n are the same in kind, order, days and all lengths lent have the same two meters of it
  abbrev pub MetersAgree : ℕ → Fetch → Fetch → Type 0
  MetersAgree n f g = calls_to n f ≡ calls_to n g → meters_of n f ≡ meters_of n g
