-- The calls of a session, over the code of each catalogue (document 01, 'Session' and 'Numbers a call can give'; the day of an issue, the meters, and where
-- a message ends: document 02, items 1, 5 and 6): the whole result, and the final bytes of the buffer that the call may write, for every input. A call goes
-- by its verdict, the foremost of its faults; refused, it changes nothing.
use Rattle.std.specs.Prelude.{◌≡◌, not, List, [], ◌∷◌, ◌++◌, ℕ, ◌*◌, leb, ltb, eqb, length, Ok, Err}
use Rattle.lists.specs.Parts.{put}
use Rattle.refusal.specs.Verdicts.{accepted, Verdict, Outcome}
use Rattle.refusal.specs.Foremost.{Fault, fault, foremost}
use Rattle.scheme.specs.Scheme.{Scheme}
use Rattle.calendar.specs.declared.Day.{Day}
use Rattle.catalogue.specs.declared.Catalogue.{Catalogue}
use Rattle.catalogue.specs.Catalogue.{catalogue_faults, catalogue_verdict}
use Rattle.codes.specs.Messages.{message_length, recovered_in}
use Rattle.session.specs.declared.Session.{Session}
use Rattle.session.specs.declared.Handed.{Handed}
use Rattle.session_checks.specs.Checks.{used_places, session_faults, server_faults, served_faults, history_faults, full_fault, due_faults, missing_fault}
use Rattle.session.specs.Fields.{new_session, zero_session, mark_issued, mark_taken}

-- What issue, take and recover do: what they hand back, and how they leave the buffer that they may write (the query's, the answers', the message's)
pub record Out : Type 0 where
  pub handed : Handed
  pub buffer : List ℕ

abbrev pub out : Verdict → Session → List ℕ → Out
out verdict s buffer = record { handed = record { verdict = verdict; session = s }; buffer = buffer }

-- A call of the code did what the definition says: its result, and the final bytes of the buffer
pub record Did (o : Out) (result : Handed) (after : List ℕ) : Type 0 where
  pub handed : result ≡ o.handed
  pub buffer : after ≡ o.buffer

-- call_by s buffer after written: the session and the buffer after a call, done or refused
abbrev pub call_by : Session → List ℕ → Session → List ℕ → Verdict → Out
call_by s buffer after written (Ok _) = out accepted after written
call_by s buffer after written (Err refusal) = out (Err refusal) s buffer

module _ (scheme_of : Catalogue → Scheme) where
  abbrev pub code_of : Session → Scheme
  code_of s = scheme_of s.catalogue

  -- the places of the session's key that are used
  abbrev pub key_of : Session → List ℕ
  key_of s = used_places scheme_of s.catalogue s.key

  -- the query that the session's message and key call for at a server
  abbrev pub query_of : Session → ℕ → List ℕ
  query_of s server = (code_of s).query s.wanted server (key_of s)

  -- the bytes of N slots
  abbrev pub slots_of : Catalogue → ℕ
  slots_of c = c.servers * (scheme_of c).sizes.slot

  -- what a call checks of the session's fields, and of the server that it names
  abbrev pub own_faults : Session → List Fault
  own_faults s = session_faults scheme_of s.catalogue s.wanted s.key

  abbrev pub ask_faults : Session → ℕ → List Fault
  ask_faults s = server_faults scheme_of s.catalogue s.wanted s.key

  -- on a day
  abbrev pub ask_faults_on : Session → Day → ℕ → List Fault
  ask_faults_on s day = served_faults scheme_of s.catalogue day s.wanted s.key

  -- and of its marks and meters
  abbrev pub past_faults : Session → List Fault
  past_faults s = history_faults scheme_of s.catalogue s.wanted (key_of s) s.issued s.taken s.meters

  -- begin catalogue wanted key
  abbrev pub begin_faults : Catalogue → ℕ → List ℕ → List Fault
  begin_faults c wanted key =
      catalogue_faults c
      ++ (fault 4 (leb c.messages wanted)
      ∷ fault 5 (not (eqb (length key) (scheme_of c).sizes.key))
      ∷ fault 6 (not ((scheme_of c).key_good key))
      ∷ [])

  unfoldable pub begin_verdict : Catalogue → ℕ → List ℕ → Verdict
  begin_verdict c wanted key = foremost (begin_faults c wanted key)

  abbrev pub begin_by : Catalogue → ℕ → List ℕ → Verdict → Handed
  begin_by c wanted key (Ok _) = record { verdict = accepted; session = new_session c wanted key }
  begin_by c wanted key (Err refusal) = record { verdict = Err refusal; session = zero_session }

  unfoldable pub begin : Catalogue → ℕ → List ℕ → Handed
  begin c wanted key = begin_by c wanted key (begin_verdict c wanted key)

  -- issue session day server buffer: the query, at the start of the buffer
  abbrev pub issue_faults : Session → Day → ℕ → ℕ → List Fault
  issue_faults s day server room =
      ask_faults_on s day server
      ++ (fault 9 (ltb room (code_of s).sizes.query) ∷ (past_faults s ++ (full_fault s.meters server (code_of s).sizes.query ∷ [])))

  unfoldable pub issue_verdict : Session → Day → ℕ → ℕ → Verdict
  issue_verdict s day server room = foremost (issue_faults s day server room)

  abbrev pub issue_by : Session → ℕ → List ℕ → Verdict → Out
  issue_by s server buffer = call_by s buffer (mark_issued s server (code_of s).sizes.query) (put 0 (query_of s server) buffer)

  unfoldable pub issue : Session → Day → ℕ → List ℕ → Out
  issue s day server buffer = issue_by s server buffer (issue_verdict s day server (length buffer))

  -- take session server answer buffer, on any day: the answer, at the start of the server's slot; of an empty answer nothing is written. The length goes by the
  -- query that the session calls for there, issued or not
  abbrev pub take_faults : Session → ℕ → ℕ → ℕ → List Fault
  take_faults s server size room =
      ask_faults s server
      ++ (fault 9 (ltb room (slots_of s.catalogue))
      ∷ fault 10 (not (eqb size ((code_of s).answer_length (query_of s server))))
      ∷ (past_faults s ++ due_faults s.issued s.taken server))

  unfoldable pub take_verdict : Session → ℕ → ℕ → ℕ → Verdict
  take_verdict s server size room = foremost (take_faults s server size room)

  abbrev pub take_by : Session → ℕ → List ℕ → List ℕ → Verdict → Out
  take_by s server answer buffer = call_by s buffer (mark_taken s server (length answer)) (put (server * (code_of s).sizes.slot) answer buffer)

  unfoldable pub take_answer : Session → ℕ → List ℕ → List ℕ → Out
  take_answer s server answer buffer = take_by s server answer buffer (take_verdict s server (length answer) (length buffer))

  -- the bytes of the session's message
  abbrev pub wanted_length : Session → ℕ
  wanted_length s = message_length scheme_of s.catalogue s.wanted

  -- recover session answers buffer, on any day: the message, at the start of the buffer, from the answers in their slots; the session as it was. Only the
  -- message's bytes are written, and 9 goes by their number
  abbrev pub recover_faults : Session → ℕ → ℕ → List Fault
  recover_faults s answers_room room =
      own_faults s
      ++ (fault 9 (ltb answers_room (slots_of s.catalogue))
      ∷ fault 9 (ltb room (wanted_length s))
      ∷ (past_faults s ++ (missing_fault s.catalogue.servers s.taken ∷ [])))

  unfoldable pub recover_verdict : Session → ℕ → ℕ → Verdict
  recover_verdict s answers_room room = foremost (recover_faults s answers_room room)

  -- the message that the answers in a buffer give
  abbrev pub recovered_message : Session → List ℕ → List ℕ
  recovered_message s answers = recovered_in scheme_of s.catalogue s.wanted (key_of s) answers

  abbrev pub recover_by : Session → List ℕ → List ℕ → Verdict → Out
  recover_by s answers buffer = call_by s buffer s (put 0 (recovered_message s answers) buffer)

  unfoldable pub recover : Session → List ℕ → List ℕ → Out
  recover s answers buffer = recover_by s answers buffer (recover_verdict s (length answers) (length buffer))

  -- an upper bound on the bytes that a fetch receives, from the catalogue alone
  abbrev pub bound_by : Catalogue → Verdict → Outcome
  bound_by c (Ok _) = Ok (slots_of c)
  bound_by c (Err refusal) = Err refusal

  unfoldable pub bound : Catalogue → Outcome
  bound c = bound_by c (catalogue_verdict c)
