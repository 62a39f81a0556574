-- The meters of a fetch's session are the sums over its calls, and no sum passes what a meter can say (`runs`). It rests on `next`: the meters agree with
-- the calls made.
use mathlib.Core.Path.{◌≡◌, refl, sym, ap, ◌∙◌, subst}
use mathlib.Core.Bool.{Bool, true, false, cond, ◌||◌}
use mathlib.Core.List.{List, [], ◌∷◌}
use Prim.Native.Nat.{ℕ, ◌+◌, ◌≤◌, ◌<◌}
use native.Mathlib.Nat.{zero-add}
use native.Mathlib.Omega.{arith}
use borrow.Author.Tests.{eqb-true}
use lib.Dec.{eqb}
use lib.ListN.{length, drop}
use lib.Seq.{take_at}
use Rattle.lists.specs.Distinct.{stands}
use Rattle.lists.proofs.Distinct.{eqb_comm}
use Rattle.scheme.specs.Scheme.{Scheme, Valid}
use Rattle.scheme.specs.Laws.{Laws}
use Rattle.std.specs.Prelude.{Ok, Err}
use Rattle.refusal.specs.Verdicts.{Verdict, accepted}
use Rattle.catalogue.specs.declared.Catalogue.{Catalogue}
use Rattle.catalogue.specs.Catalogue.{Admitted}
use Rattle.session_parts.specs.declared.Meters.{Meters}
use Rattle.session_parts.specs.Meters.{most_bytes, counted}
use Rattle.session_checks.specs.Checks.{answer_bytes}
use Rattle.session.specs.declared.Session.{Session}
use Rattle.session.specs.Calls.{take_verdict, issue_verdict}
use Rattle.session.proofs.Issue.{issue-passed, issue-by}
use Rattle.session.proofs.Take.{take-passed, take_by_lem}
use Rattle.fetches.specs.Fetches.{Call, issuing, taking, recovering, State, Made, make, run, ended}
use Rattle.fetches.specs.Past.{Past, since}
use Rattle.fetches.specs.Told.{bytes_to, sent_to}
use Rattle.fetches.specs.Metered.{sent_by, sent, got_by, got}
use Rattle.fetches.proofs.Kept.{session_of, state_of, Kept}
use Rattle.fetches.proofs.Steps.{kept-query, next}

module _ (scheme_of : Catalogue → Scheme) (c : Catalogue) (admitted : Admitted c) (laws : Laws c.servers c.messages (scheme_of c))
    (wanted : ℕ) (inside : wanted < c.messages) (key : List ℕ) (valid : Valid (scheme_of c) key) (n : ℕ) where
  -- the bytes of server n's answer
  abbrev pub due : ℕ
  due = answer_bytes scheme_of c wanted key n

  -- what the calls made before say of server n
  abbrev pub sent_of : Past → ℕ
  sent_of past = sent_to scheme_of c past n

  abbrev pub got_of : Past → ℕ
  got_of past = cond (stands n past.taken) due 0

  -- one call
  module _ (room : ℕ) (past : Past) (issued taken : List Bool) (meters : Meters) (answers : List ℕ)
      (k : Kept scheme_of c wanted key room past issued taken meters answers) where
    abbrev s : Session
    s = session_of c wanted key issued taken meters

    abbrev made : Call → Made
    made call = make scheme_of (state_of c wanted key issued taken meters answers) call

    abbrev SentMore : Call → Type 0
    SentMore call = sent_of (since past (made call)) ≡ sent_by scheme_of c n (made call).call (made call).left (made call).verdict + sent_of past

    abbrev GotMore : Call → Type 0
    GotMore call = got_of (since past (made call)) ≡ got_by n (made call).call (made call).verdict + got_of past

    sent-more : (call : Call) → SentMore call
    unfolding bytes_to
    sent-more (issuing server day query answer_day answer) = go (issue_verdict scheme_of s day server (length query)) refl
      where
        go : (v : Verdict) → v ≡ issue_verdict scheme_of s day server (length query) → SentMore (issuing server day query answer_day answer)
        go (Ok _) e =
            let i = issue-passed scheme_of s day server (length query) (sym e) in
            let long = laws.query-length wanted server key inside i.below valid in
            rw (
              issue-by scheme_of s day server query accepted e,
              kept-query scheme_of c admitted laws wanted inside key valid issued taken meters server,
              take_at ((scheme_of c).query wanted server key) (drop (length ((scheme_of c).query wanted server key)) query) (scheme_of c).sizes.query long,
              long,
              eqb_comm n server,
            )
        go (Err refusal) e = rw (issue-by scheme_of s day server query (Err refusal) e) (sym (zero-add (sent_of past)))
    sent-more (taking server answer) = go (take_verdict scheme_of s server (length answer) (length answers)) refl
      where
        go : (v : Verdict) → v ≡ take_verdict scheme_of s server (length answer) (length answers) → SentMore (taking server answer)
        go (Ok _) e = rw (take_by_lem scheme_of s server answer answers accepted e) (sym (zero-add (sent_of past)))
        go (Err refusal) e = rw (take_by_lem scheme_of s server answer answers (Err refusal) e) (sym (zero-add (sent_of past)))
    sent-more (recovering message) = sym (zero-add (sent_of past))

    got-more : (call : Call) → GotMore call
    unfolding stands
    got-more (issuing server day query answer_day answer) = go (issue_verdict scheme_of s day server (length query)) refl
      where
        go : (v : Verdict) → v ≡ issue_verdict scheme_of s day server (length query) → GotMore (issuing server day query answer_day answer)
        go (Ok _) e = rw (issue-by scheme_of s day server query accepted e) (sym (zero-add (got_of past)))
        go (Err refusal) e = rw (issue-by scheme_of s day server query (Err refusal) e) (sym (zero-add (got_of past)))
    got-more (taking server answer) = go (take_verdict scheme_of s server (length answer) (length answers)) refl
      where
        one : (t : Bool) → eqb n server ≡ t → length answer ≡ answer_bytes scheme_of c wanted key server → stands server past.taken ≡ false
            → cond (t || stands n past.taken) due 0 ≡ cond t (length answer) 0 + cond (stands n past.taken) due 0
        one true e sized new =
            let same : n ≡ server = eqb-true n server e in
            rw (same, new, sized) (omega arith)
        one false e sized new = sym (zero-add (got_of past))

        go : (v : Verdict) → v ≡ take_verdict scheme_of s server (length answer) (length answers) → GotMore (taking server answer)
        go (Ok _) e =
            let t = take-passed scheme_of s server (length answer) (length answers) (sym e) in
            let sized = t.sized ∙ ap (scheme_of c).answer_length (kept-query scheme_of c admitted laws wanted inside key valid issued taken meters server) in
            rw (take_by_lem scheme_of s server answer answers accepted e, eqb_comm server n)
            (one (eqb n server) refl sized (sym (k.agree server) ∙ t.not_taken))
        go (Err refusal) e = rw (take_by_lem scheme_of s server answer answers (Err refusal) e) (sym (zero-add (got_of past)))
    got-more (recovering message) = sym (zero-add (got_of past))

  -- all calls
  pub record Runs (past : Past) (at : State) (calls : List Call) : Type 0 where
    pub sums-sent : counted (ended scheme_of at calls).session.meters.sent n ≡ sent scheme_of c n (run scheme_of at calls) + sent_of past
    pub sums-got : counted (ended scheme_of at calls).session.meters.got n ≡ got n (run scheme_of at calls) + got_of past
    pub fits : sent scheme_of c n (run scheme_of at calls) + sent_of past ≤ most_bytes

  pub runs : (calls : List Call) (room : ℕ) (past : Past) (issued taken : List Bool) (meters : Meters) (answers : List ℕ)
      → Kept scheme_of c wanted key room past issued taken meters answers → Runs past (state_of c wanted key issued taken meters answers) calls
  runs [] room past issued taken meters answers k = record {
    sums-sent = k.agree-sent n ∙ sym (zero-add (sent_of past));
    sums-got = k.agree-got n ∙ sym (zero-add (got_of past));
    fits = let e = k.agree-sent n in omega (arith, e, k.sent-fits n);
  }
  runs (call ∷ calls) room past issued taken meters answers k =
      let x = next scheme_of c admitted laws wanted inside key valid room past issued taken meters answers k call in
      let m : Made = make scheme_of (state_of c wanted key issued taken meters answers) call in
      let r : Runs (since past m) m.after calls =
      subst (λ (at : State). Runs (since past m) at calls) (sym x.is) (runs calls room _ x.issued x.taken x.meters x.answers x.kept) in
      let a : sent_of (since past m) ≡ sent_by scheme_of c n m.call m.left m.verdict + sent_of past =
      sent-more room past issued taken meters answers k call in
      let b : got_of (since past m) ≡ got_by n m.call m.verdict + got_of past = got-more room past issued taken meters answers k call in
      let d = r.sums-sent in
      let e = r.sums-got in
      let f = r.fits in
      record {
        sums-sent =
            let w : counted (ended scheme_of m.after calls).session.meters.sent n
            ≡ sent_by scheme_of c n m.call m.left m.verdict + sent scheme_of c n (run scheme_of m.after calls) + sent_of past = omega (arith, d, a) in w;
        sums-got =
            let w : counted (ended scheme_of m.after calls).session.meters.got n
            ≡ got_by n m.call m.verdict + got n (run scheme_of m.after calls) + got_of past = omega (arith, e, b) in w;
        fits =
            let w : sent_by scheme_of c n m.call m.left m.verdict + sent scheme_of c n (run scheme_of m.after calls) + sent_of past ≤ most_bytes =
            omega (arith, f, a) in w;
      }
