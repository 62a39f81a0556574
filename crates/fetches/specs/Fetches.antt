-- Fetches (document 01, 'Lists of fetches'): the calls that follow a begin, made one after another, and what each did.
-- `make` makes one call, and `history` is what all calls of a fetch did, in order.
use Rattle.std.specs.Prelude.{List, [], ◌∷◌, ℕ}
use Rattle.scheme.specs.Scheme.{Scheme}
use Rattle.calendar.specs.declared.Day.{Day}
use Rattle.refusal.specs.Verdicts.{Verdict}
use Rattle.catalogue.specs.declared.Catalogue.{Catalogue}
use Rattle.session.specs.declared.Session.{Session}
use Rattle.session.specs.Calls.{Out, begin, issue, take_answer, recover}

-- A call of a fetch, with the buffers that are its own as they are when it is made: an issue has the one for the query, and the one that the server
-- answers the query into; a recover has the one for the message. A take and a recover are lent the fetch's one answer buffer besides. An issue has two
-- days, the one on which it is issued and the one on which it is answered (document 02, item 1)
pub data Call : Type 0 where
  issuing : (server : ℕ) (day : Day) (query : List ℕ) (answer_day : Day) (answer : List ℕ) → Call
  taking : (server : ℕ) (answer : List ℕ) → Call
  recovering : (message : List ℕ) → Call

-- A fetch from a catalogue: what begin is given, the answer buffer as it is at first, and the calls that follow begin
pub record Fetch : Type 0 where
  pub wanted : ℕ
  pub key : List ℕ
  pub answers : List ℕ
  pub calls : List Call

-- What a fetch holds between two calls: its session and its answer buffer
pub record State : Type 0 where
  pub session : Session
  pub answers : List ℕ

-- A call that was made: the state before and after it, its verdict, and how it left its own buffer, the query's or the message's (a take has none)
pub record Made : Type 0 where
  pub call : Call
  pub before : State
  pub verdict : Verdict
  pub left : List ℕ
  pub after : State

-- the call's own buffer, as it was lent
abbrev pub lent : Call → List ℕ
lent (issuing server day query answer_day answer) = query
lent (taking server answer) = []
lent (recovering message) = message

-- issue and recover may write the call's own buffer, and take the answer buffer
abbrev pub own_written : Call → State → Out → Made
own_written call at o = record {
  call = call;
  before = at;
  verdict = o.handed.verdict;
  left = o.buffer;
  after = record { session = o.handed.session; answers = at.answers };
}

abbrev pub answers_written : Call → State → Out → Made
answers_written call at o = record {
  call = call;
  before = at;
  verdict = o.handed.verdict;
  left = [];
  after = record { session = o.handed.session; answers = o.buffer };
}

module _ (scheme_of : Catalogue → Scheme) where
  abbrev pub make : State → Call → Made
  make at (issuing server day query answer_day answer) =
      own_written (issuing server day query answer_day answer) at (issue scheme_of at.session day server query)
  make at (taking server answer) = answers_written (taking server answer) at (take_answer scheme_of at.session server answer at.answers)
  make at (recovering message) = own_written (recovering message) at (recover scheme_of at.session at.answers message)

  -- each call gets the session that the last one handed back, and the answer buffer as the last one left it
  abbrev pub run : State → List Call → List Made
  run at [] = []
  run at (call ∷ calls) = make at call ∷ run (make at call).after calls

  -- the state after the calls
  abbrev pub ended : State → List Call → State
  ended at [] = at
  ended at (call ∷ calls) = ended (make at call).after calls

  -- the first of them gets begin's
  abbrev pub start : Catalogue → Fetch → State
  start c f = record { session = (begin scheme_of c f.wanted f.key).session; answers = f.answers }

  abbrev pub history : Catalogue → Fetch → List Made
  history c f = run (start c f) f.calls
