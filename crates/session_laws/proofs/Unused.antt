-- No call looks past the used places of a key (`unused-unread`): verdict, query and message go by `key_of` alone.
use mathlib.Core.Path.{◌≡◌, refl, ap}
use mathlib.Core.List.{List}
use Prim.Native.Nat.{ℕ}
use lib.ListN.{length, take}
use Rattle.lists.specs.Parts.{put}
use Rattle.scheme.specs.Scheme.{Scheme}
use Rattle.calendar.specs.declared.Day.{Day}
use Rattle.std.specs.Prelude.{Err, Ok}
use Rattle.refusal.specs.Verdicts.{Verdict, accepted}
use Rattle.catalogue.specs.declared.Catalogue.{Catalogue}
use Rattle.codes.specs.Messages.{recovered_in}
use Rattle.session.specs.declared.Session.{Session}
use Rattle.session.specs.Fields.{mark_issued}
use Rattle.session.specs.Calls.{out, code_of, key_of, query_of, recovered_message, issue_verdict, issue, take_verdict, take_answer, recover_verdict, recover}
use Rattle.session.proofs.Issue.{issue-by}
use Rattle.session.proofs.Take.{take_by_lem}
use Rattle.session.proofs.Recover.{recover-by}
use Rattle.session_laws.specs.Unused.{with_places, handed_with, UnusedUnread}

module _ (scheme_of : Catalogue → Scheme) (s : Session) (places : List ℕ) (same : take (code_of scheme_of s).sizes.key places ≡ key_of scheme_of s) where
  abbrev t : Session
  t = with_places places s

  query-same : (server : ℕ) → query_of scheme_of t server ≡ query_of scheme_of s server
  query-same server = ap ((code_of scheme_of s).query s.wanted server) same

  message-same : (answers : List ℕ) → recovered_message scheme_of t answers ≡ recovered_message scheme_of s answers
  message-same answers =
      ap (λ (key : List ℕ). recovered_in scheme_of s.catalogue s.wanted key answers) same

  issue-same : (day : Day) (server : ℕ) (buffer : List ℕ) (v : Verdict) → v ≡ issue_verdict scheme_of s day server (length buffer)
      → issue scheme_of t day server buffer ≡ handed_with places (issue scheme_of s day server buffer)
  unfolding issue_verdict
  issue-same day server buffer (Ok _) e =
      let f : accepted ≡ issue_verdict scheme_of t day server (length buffer) = rw same e in
      rw (issue-by scheme_of t day server buffer accepted f, issue-by scheme_of s day server buffer accepted e)
      (ap (λ (query : List ℕ). out accepted (mark_issued t server (code_of scheme_of s).sizes.query) (put 0 query buffer)) (query-same server))
  issue-same day server buffer (Err refusal) e =
      let f : Err refusal ≡ issue_verdict scheme_of t day server (length buffer) = rw same e in
      rw (issue-by scheme_of t day server buffer (Err refusal) f, issue-by scheme_of s day server buffer (Err refusal) e)

  take_same : (server : ℕ) (answer buffer : List ℕ) (v : Verdict) → v ≡ take_verdict scheme_of s server (length answer) (length buffer)
      → take_answer scheme_of t server answer buffer ≡ handed_with places (take_answer scheme_of s server answer buffer)
  unfolding take_verdict
  take_same server answer buffer (Ok _) e =
      let f : accepted ≡ take_verdict scheme_of t server (length answer) (length buffer) = rw (query-same server, same) e in
      rw (take_by_lem scheme_of t server answer buffer accepted f, take_by_lem scheme_of s server answer buffer accepted e)
  take_same server answer buffer (Err refusal) e =
      let f : Err refusal ≡ take_verdict scheme_of t server (length answer) (length buffer) = rw (query-same server, same) e in
      rw (take_by_lem scheme_of t server answer buffer (Err refusal) f, take_by_lem scheme_of s server answer buffer (Err refusal) e)

  recover-as : (answers buffer : List ℕ) (v : Verdict) → v ≡ recover_verdict scheme_of s (length answers) (length buffer)
      → recover scheme_of t answers buffer ≡ handed_with places (recover scheme_of s answers buffer)
  unfolding recover_verdict
  recover-as answers buffer (Ok _) e =
      let f : accepted ≡ recover_verdict scheme_of t (length answers) (length buffer) = rw same e in
      rw (recover-by scheme_of t answers buffer accepted f, recover-by scheme_of s answers buffer accepted e)
      (ap (λ (message : List ℕ). out accepted t (put 0 message buffer)) (message-same answers))
  recover-as answers buffer (Err refusal) e =
      let f : Err refusal ≡ recover_verdict scheme_of t (length answers) (length buffer) = rw same e in
      rw (recover-by scheme_of t answers buffer (Err refusal) f, recover-by scheme_of s answers buffer (Err refusal) e)

pub unused-unread : (scheme_of : Catalogue → Scheme) → UnusedUnread scheme_of
unused-unread scheme_of s places same = record {
  issues = λ day server buffer. issue-same scheme_of s places same day server buffer (issue_verdict scheme_of s day server (length buffer)) refl;
  takes = λ server answer buffer. take_same scheme_of s places same server answer buffer (take_verdict scheme_of s server (length answer) (length buffer)) refl;
  recovers = λ answers buffer. recover-as scheme_of s places same answers buffer (recover_verdict scheme_of s (length answers) (length buffer)) refl;
}
