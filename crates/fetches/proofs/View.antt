-- What a server is shown of a fetch (`view`): a function of the query that the fetch asks it and of the fetch's issues, and of nothing else. It rests on
-- `next`: a fetch keeps its message and its key.
use mathlib.Core.Path.{◌≡◌, refl, sym, ap, ◌∙◌}
use mathlib.Core.Bool.{Bool, true, false, cond}
use mathlib.Core.List.{List, [], ◌∷◌, ◌++◌}
use Prim.Native.Nat.{ℕ, ◌<◌}
use native.Mathlib.Nat.{zero-add}
use borrow.Author.Tests.{eqb-true, eqb-false, eq-eqb, ne_eqb, lt-leb}
use lib.Dec.{eqb}
use lib.ListN.{length}
use Rattle.scheme.specs.Scheme.{Scheme, Valid}
use Rattle.scheme.specs.Laws.{Laws}
use Rattle.calendar.specs.declared.Day.{Day}
use Rattle.std.specs.Prelude.{Ok, Err}
use Rattle.refusal.specs.Verdicts.{Verdict}
use Rattle.catalogue.specs.declared.Catalogue.{Catalogue}
use Rattle.catalogue.specs.Catalogue.{Admitted}
use Rattle.session_parts.specs.declared.Meters.{Meters}
use Rattle.session.specs.declared.Session.{Session}
use Rattle.fetches.specs.Fetches.{Call, issuing, taking, recovering, Made, make, run}
use Rattle.fetches.specs.Shown.{issues, showing, shown_to}
use Rattle.fetches.specs.Past.{Past, past_by, since}
use Rattle.fetches.specs.Told.{bytes_to, sent_to}
use Rattle.fetches.proofs.Told.{told}
use Rattle.fetches.proofs.Kept.{session_of, state_of, Kept}
use Rattle.fetches.proofs.Steps.{next}
use Rattle.fetches.proofs.Seen.{verdict_on, sent_after, seen, seen_of}
use Rattle.fetches.proofs.IssueShown.{issue-shown}

module _ (scheme_of : Catalogue → Scheme) (c : Catalogue) (admitted : Admitted c) (laws : Laws c.servers c.messages (scheme_of c))
    (wanted : ℕ) (inside : wanted < c.messages) (key : List ℕ) (valid : Valid (scheme_of c) key) (store : List ℕ) (n : ℕ) (below : n < c.servers) where
  abbrev query : List ℕ
  query = (scheme_of c).query wanted n key

  long : length query ≡ (scheme_of c).sizes.query
  long = laws.query-length wanted n key inside below valid

  -- an issue to the server
  module _ (room : ℕ) (past : Past) (issued taken : List Bool) (meters : Meters) (answers : List ℕ)
      (k : Kept scheme_of c wanted key room past issued taken meters answers) where
    abbrev s : Session
    s = session_of c wanted key issued taken meters

    abbrev issue_made : ℕ → Day → List ℕ → Day → List ℕ → Made
    issue_made server day buffer answer_day answer =
        make scheme_of (state_of c wanted key issued taken meters answers) (issuing server day buffer answer_day answer)

    -- the bytes issued to the server after a call
    abbrev sent : Past → ℕ
    sent p = sent_to scheme_of c p n

    issue-counts : (day answer_day : Day) (buffer answer : List ℕ) (v : Verdict)
        → sent (past_by (issuing n day buffer answer_day answer) v past) ≡ sent_after (scheme_of c).sizes.query (sent past) v
    unfolding bytes_to
    issue-counts day answer_day buffer answer (Ok _) = rw (eq-eqb n n refl)
    issue-counts day answer_day buffer answer (Err refusal) = refl

    issue-beside : (server : ℕ) (day answer_day : Day) (buffer answer : List ℕ) → (n ≡ server → ⊥) → (v : Verdict)
        → sent (past_by (issuing server day buffer answer_day answer) v past) ≡ sent past
    unfolding bytes_to
    issue-beside server day answer_day buffer answer ne (Ok _) = rw (ne_eqb n server ne) (zero-add (bytes_to (scheme_of c).sizes.query n past.issued))
    issue-beside server day answer_day buffer answer ne (Err refusal) = refl

    take-counts : (server : ℕ) (answer : List ℕ) (v : Verdict) → sent (past_by (taking server answer) v past) ≡ sent past
    take-counts server answer (Ok _) = refl
    take-counts server answer (Err refusal) = refl

    issue-sent : (server : ℕ) (day answer_day : Day) (buffer answer : List ℕ) (t : Bool) → eqb server n ≡ t
        → sent (since past (issue_made server day buffer answer_day answer))
        ≡ cond t (sent_after (scheme_of c).sizes.query (sent past) (verdict_on c (scheme_of c).sizes.query (sent past) day (length buffer))) (sent past)
    issue-sent server day answer_day buffer answer true e =
        let same : server ≡ n = eqb-true server n e in
        let says : (issue_made n day buffer answer_day answer).verdict ≡ verdict_on c (scheme_of c).sizes.query (sent past) day (length buffer) =
        (told scheme_of c admitted laws wanted inside key valid room past issued taken meters answers k (issuing n day buffer answer_day answer)
        ).issues n day answer_day buffer answer refl
        ∙ rw (lt-leb c.servers n below) in
        rw same
        (issue-counts day answer_day buffer answer (issue_made n day buffer answer_day answer).verdict
        ∙ ap (sent_after (scheme_of c).sizes.query (sent past)) says)
    issue-sent server day answer_day buffer answer false e =
        issue-beside server day answer_day buffer answer (λ q. eqb-false server n e (sym q)) (issue_made server day buffer answer_day answer).verdict

  -- the calls of a fetch
  pub view : (calls : List Call) (room : ℕ) (past : Past) (issued taken : List Bool) (meters : Meters) (answers : List ℕ)
      → Kept scheme_of c wanted key room past issued taken meters answers
      → shown_to scheme_of c store n (run scheme_of (state_of c wanted key issued taken meters answers) calls)
      ≡ seen_of scheme_of c store n query (sent_to scheme_of c past n) (issues calls)
  view [] room past issued taken meters answers k = refl
  view (issuing server day buffer answer_day answer ∷ calls) room past issued taken meters answers k =
      let x = next scheme_of c admitted laws wanted inside key valid room past issued taken meters answers k (issuing server day buffer answer_day answer) in
      rw (
        x.is,
        view calls room _ x.issued x.taken x.meters x.answers x.kept,
        issue-sent room past issued taken meters answers k server day answer_day buffer answer (eqb server n) refl,
      )
      (go (eqb server n) refl)
    where
      go : (t : Bool) → eqb server n ≡ t → let made = issue_made room past issued taken meters answers k server day buffer answer_day answer in
          let rest = seen_of scheme_of c store n query (cond (eqb server n)
          (sent_after (scheme_of c).sizes.query (sent_to scheme_of c past n)
          (verdict_on c (scheme_of c).sizes.query (sent_to scheme_of c past n) day (length buffer))) (sent_to scheme_of c past n)) (issues calls) in
          cond t (showing scheme_of c store server made.left answer_day answer made.verdict ∷ []) [] ++ rest
          ≡ cond t (seen scheme_of c store n query (sent_to scheme_of c past n) day (length buffer) answer_day (length answer) ∷ []) [] ++ rest
      go true e = rw (eqb-true server n e, issue-shown scheme_of c admitted laws wanted inside key valid store n below room past issued taken meters answers k day answer_day buffer answer)
      go false e = refl
  view (taking server answer ∷ calls) room past issued taken meters answers k =
      let x = next scheme_of c admitted laws wanted inside key valid room past issued taken meters answers k (taking server answer) in
      rw x.is
      (view calls room _ x.issued x.taken x.meters x.answers x.kept
      ∙ ap (λ (before : ℕ). seen_of scheme_of c store n query before (issues calls))
      (take-counts room past issued taken meters answers k server answer
      (make scheme_of (state_of c wanted key issued taken meters answers) (taking server answer)).verdict))
  view (recovering message ∷ calls) room past issued taken meters answers k =
      let x = next scheme_of c admitted laws wanted inside key valid room past issued taken meters answers k (recovering message) in
      rw x.is (view calls room _ x.issued x.taken x.meters x.answers x.kept)
