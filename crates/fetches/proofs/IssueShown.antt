-- What an issue of a fetch shows the server that it names (`issue-shown`): the query that the fetch asks it, and the answer to that, whatever stood in
-- the buffer.
use mathlib.Core.Path.{◌≡◌, sym, ◌∙◌}
use mathlib.Core.Bool.{Bool}
use mathlib.Core.List.{List}
use Prim.Native.Nat.{ℕ, ◌<◌}
use native.Mathlib.Omega.{arith}
use borrow.Author.Tests.{lt-leb}
use lib.ListN.{length, drop, replicate}
use lib.Seq.{take_at, take_all}
use Rattle.scheme.specs.Scheme.{Scheme, Valid}
use Rattle.scheme.specs.Laws.{Laws}
use Rattle.calendar.specs.declared.Day.{Day}
use Rattle.std.specs.Prelude.{Err, Ok}
use Rattle.refusal.specs.Verdicts.{Verdict, accepted}
use Rattle.catalogue.specs.declared.Catalogue.{Catalogue}
use Rattle.catalogue.specs.Catalogue.{Admitted}
use Rattle.session_parts.specs.declared.Meters.{Meters}
use Rattle.session.specs.declared.Session.{Session}
use Rattle.session.specs.Calls.{issue_verdict}
use Rattle.session.proofs.Issue.{issue-sound, issue-by}
use Rattle.fetches.specs.Fetches.{issuing, Made, make}
use Rattle.fetches.specs.Shown.{showing}
use Rattle.fetches.specs.Past.{Past}
use Rattle.fetches.specs.Told.{sent_to}
use Rattle.fetches.proofs.Kept.{session_of, state_of, Kept}
use Rattle.fetches.proofs.Steps.{kept-query, sound}
use Rattle.fetches.proofs.Seen.{verdict_on, seen, same-room}

module _ (scheme_of : Catalogue → Scheme) (c : Catalogue) (admitted : Admitted c) (laws : Laws c.servers c.messages (scheme_of c))
    (wanted : ℕ) (inside : wanted < c.messages) (key : List ℕ) (valid : Valid (scheme_of c) key) (store : List ℕ) (n : ℕ) (below : n < c.servers) where
  abbrev query : List ℕ
  query = (scheme_of c).query wanted n key

  long : length query ≡ (scheme_of c).sizes.query
  long = laws.query-length wanted n key inside below valid

  -- an issue to the server
  module _ (room : ℕ) (past : Past) (issued taken : List Bool) (meters : Meters) (answers : List ℕ)
      (k : Kept scheme_of c wanted key room past issued taken meters answers) where
    abbrev s : Session
    s = session_of c wanted key issued taken meters

    abbrev issue_made : ℕ → Day → List ℕ → Day → List ℕ → Made
    issue_made server day buffer answer_day answer =
        make scheme_of (state_of c wanted key issued taken meters answers) (issuing server day buffer answer_day answer)

    pub issue-shown : (day answer_day : Day) (buffer answer : List ℕ) → let made = issue_made n day buffer answer_day answer in
        showing scheme_of c store n made.left answer_day answer made.verdict
        ≡ seen scheme_of c store n query (sent_to scheme_of c past n) day (length buffer) answer_day (length answer)
    issue-shown day answer_day buffer answer =
        go (verdict_on c (scheme_of c).sizes.query (sent_to scheme_of c past n) day (length buffer))
        (sym (issue-sound scheme_of s day n (sound scheme_of c admitted laws wanted inside key valid room past issued taken meters answers k) (length buffer)
        ∙ rw (lt-leb c.servers n below, k.agree-sent n)))
      where
        go : (v : Verdict) → v ≡ issue_verdict scheme_of s day n (length buffer) → let made = issue_made n day buffer answer_day answer in
            showing scheme_of c store n made.left answer_day answer made.verdict
            ≡ showing scheme_of c store n query answer_day (replicate (length answer) 0) v
        go (Ok _) e =
            rw (
              issue-by scheme_of s day n buffer accepted e,
              kept-query scheme_of c admitted laws wanted inside key valid issued taken meters n,
              take_at query (drop (length query) buffer) (scheme_of c).sizes.query long,
              take_all (scheme_of c).sizes.query query (omega (arith, long)),
            )
            (same-room scheme_of c laws store n query answer_day answer)
        go (Err refusal) e = rw (issue-by scheme_of s day n buffer (Err refusal) e)
