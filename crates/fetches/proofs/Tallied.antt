-- The meters of a server are a function of the bytes of its answer and of the calls that name it, and of nothing else (`tallied`). It rests on what issue
-- and take say by the calls made.
use mathlib.Core.Path.{◌≡◌, refl, sym, ap, ◌∙◌}
use mathlib.Core.Bool.{Bool, true, false, not, cond}
use mathlib.Core.List.{List, [], ◌∷◌}
use Prim.Native.Nat.{ℕ, ◌+◌, ◌<◌}
use native.Mathlib.Nat.{zero-add}
use borrow.Author.Tests.{eqb-true, eqb-false, eq-eqb, ne_eqb, lt-leb}
use lib.Dec.{ltb, eqb}
use lib.ListN.{length}
use Rattle.lists.specs.Distinct.{stands}
use Rattle.lists.specs.Sums.{keep_if}
use Rattle.std.specs.Prelude.{Ok, Err}
use Rattle.refusal.specs.Verdicts.{Verdict, accepted}
use Rattle.refusal.specs.Chain.{refuse_if}
use Rattle.scheme.specs.Scheme.{Scheme, Valid}
use Rattle.scheme.specs.Laws.{Laws}
use Rattle.calendar.specs.declared.Day.{Day}
use Rattle.catalogue.specs.declared.Catalogue.{Catalogue}
use Rattle.catalogue.specs.Catalogue.{Admitted}
use Rattle.session_parts.specs.declared.Meters.{Meters}
use Rattle.session.specs.Calls.{slots_of}
use Rattle.fetches.specs.Fetches.{Call, issuing, taking, recovering, State, Made, make, ended}
use Rattle.fetches.specs.Past.{Past, past_by, since}
use Rattle.fetches.specs.Told.{bytes_to, sent_to}
use Rattle.fetches.specs.Metered.{Meter, meters_at, Named, issue_to, take_from, named}
use Rattle.fetches.proofs.Kept.{state_of, Kept}
use Rattle.fetches.proofs.Steps.{next}
use Rattle.fetches.proofs.Told.{told}
use Rattle.fetches.proofs.Seen.{verdict_on}

-- the bytes issued to it, and whether it was asked and its answer taken
pub record Tally : Type 0 where
  pub sent : ℕ
  pub asked : Bool
  pub had : Bool

abbrev pub none : Tally
none = record { sent = 0; asked = false; had = false }

abbrev pub after_issue : ℕ → Tally → Verdict → Tally
after_issue size t (Ok _) = record { sent = size + t.sent; asked = true; had = t.had }
after_issue size t (Err refusal) = t

abbrev pub after_take : Tally → Verdict → Tally
after_take t (Ok _) = record { sent = t.sent; asked = t.asked; had = true }
after_take t (Err refusal) = t

-- the verdict on a take of `size` bytes, with an answer buffer of `room`, where N slots have `slots` bytes and `due` are due
abbrev pub take_on : ℕ → ℕ → Tally → ℕ → ℕ → Verdict
take_on slots due t size room =
    refuse_if (ltb room slots) 9 (refuse_if (not (eqb size due)) 10 (refuse_if (not t.asked) 11 (refuse_if t.had 11 accepted)))

module _ (scheme_of : Catalogue → Scheme) (c : Catalogue) (due : ℕ) where
  abbrev pub meters_by : Tally → List Named → Meter
  meters_by t [] = record { sent = t.sent; got = cond t.had due 0 }
  meters_by t (issue_to day room answer_day answer_room ∷ calls) =
      meters_by (after_issue (scheme_of c).sizes.query t (verdict_on c (scheme_of c).sizes.query t.sent day room)) calls
  meters_by t (take_from size room ∷ calls) = meters_by (after_take t (take_on (slots_of scheme_of c) due t size room)) calls

module _ (scheme_of : Catalogue → Scheme) (c : Catalogue) (admitted : Admitted c) (laws : Laws c.servers c.messages (scheme_of c))
    (wanted : ℕ) (inside : wanted < c.messages) (key : List ℕ) (valid : Valid (scheme_of c) key) (n : ℕ) where
  abbrev due : ℕ
  due = (scheme_of c).answer_length ((scheme_of c).query wanted n key)

  abbrev sent_of : Past → ℕ
  sent_of past = sent_to scheme_of c past n

  abbrev tally_of : Past → Tally
  tally_of past = record { sent = sent_to scheme_of c past n; asked = stands n past.issued; had = stands n past.taken }

  module _ (below : n < c.servers) where
    module _ (room : ℕ) (past : Past) (issued taken : List Bool) (meters : Meters) (answers : List ℕ)
        (k : Kept scheme_of c wanted key room past issued taken meters answers) where
      abbrev did : Call → Made
      did call = make scheme_of (state_of c wanted key issued taken meters answers) call

      issue-here : (day answer_day : Day) (query answer : List ℕ) (v : Verdict)
          → tally_of (past_by (issuing n day query answer_day answer) v past) ≡ after_issue (scheme_of c).sizes.query (tally_of past) v
      unfolding bytes_to stands
      issue-here day answer_day query answer (Ok _) = rw (eq-eqb n n refl)
      issue-here day answer_day query answer (Err refusal) = refl

      issue-beside : (server : ℕ) (day answer_day : Day) (query answer : List ℕ) → (n ≡ server → ⊥) → (v : Verdict)
          → tally_of (past_by (issuing server day query answer_day answer) v past) ≡ tally_of past
      unfolding bytes_to stands
      issue-beside server day answer_day query answer ne (Ok _) = rw (ne_eqb n server ne, zero-add (bytes_to (scheme_of c).sizes.query n past.issued))
      issue-beside server day answer_day query answer ne (Err refusal) = refl

      take-here : (answer : List ℕ) (v : Verdict) → tally_of (past_by (taking n answer) v past) ≡ after_take (tally_of past) v
      unfolding stands
      take-here answer (Ok _) = rw (eq-eqb n n refl)
      take-here answer (Err refusal) = refl

      take-beside : (server : ℕ) (answer : List ℕ) → (n ≡ server → ⊥) → (v : Verdict) → tally_of (past_by (taking server answer) v past) ≡ tally_of past
      unfolding stands
      take-beside server answer ne (Ok _) = rw (ne_eqb n server ne)
      take-beside server answer ne (Err refusal) = refl

      issue-tally : (server : ℕ) (day answer_day : Day) (query answer : List ℕ) (t : Bool) → eqb server n ≡ t
          → tally_of (since past (did (issuing server day query answer_day answer)))
          ≡ cond t (after_issue (scheme_of c).sizes.query (tally_of past) (verdict_on c (scheme_of c).sizes.query (sent_of past) day (length query)))
          (tally_of past)
      issue-tally server day answer_day query answer true e =
          let same : server ≡ n = eqb-true server n e in
          let says : (did (issuing n day query answer_day answer)).verdict ≡ verdict_on c (scheme_of c).sizes.query (sent_of past) day (length query) =
          (told scheme_of c admitted laws wanted inside key valid room past issued taken meters answers k (issuing n day query answer_day answer)
          ).issues n day answer_day query answer refl
          ∙ rw (lt-leb c.servers n below) in
          rw same
          (issue-here day answer_day query answer (did (issuing n day query answer_day answer)).verdict
          ∙ ap (after_issue (scheme_of c).sizes.query (tally_of past)) says)
      issue-tally server day answer_day query answer false e =
          issue-beside server day answer_day query answer (λ q. eqb-false server n e (sym q)) (did (issuing server day query answer_day answer)).verdict

      take-tally : (server : ℕ) (answer : List ℕ) (t : Bool) → eqb server n ≡ t
          → tally_of (since past (did (taking server answer)))
          ≡ cond t (after_take (tally_of past) (take_on (slots_of scheme_of c) due (tally_of past) (length answer) room)) (tally_of past)
      take-tally server answer true e =
          let same : server ≡ n = eqb-true server n e in
          let says : (did (taking n answer)).verdict ≡ take_on (slots_of scheme_of c) due (tally_of past) (length answer) room =
          (told scheme_of c admitted laws wanted inside key valid room past issued taken meters answers k (taking n answer)).takes n answer refl
          ∙ rw (lt-leb c.servers n below) in
          rw same (take-here answer (did (taking n answer)).verdict ∙ ap (after_take (tally_of past)) says)
      take-tally server answer false e =
          take-beside server answer (λ q. eqb-false server n e (sym q)) (did (taking server answer)).verdict

    -- a call that names the server, or another
    named_by : (call : Named) (rest : List Named) (t : Bool) (before here after : Tally) → after ≡ cond t here before
        → meters_by scheme_of c due here rest ≡ meters_by scheme_of c due before (call ∷ rest)
        → meters_by scheme_of c due after rest ≡ meters_by scheme_of c due before (keep_if t call rest)
    unfolding keep_if
    named_by call rest true before here after e f = ap (λ (t : Tally). meters_by scheme_of c due t rest) e ∙ f
    named_by call rest false before here after e f = ap (λ (t : Tally). meters_by scheme_of c due t rest) e

    pub tallied : (calls : List Call) (room : ℕ) (past : Past) (issued taken : List Bool) (meters : Meters) (answers : List ℕ)
        → Kept scheme_of c wanted key room past issued taken meters answers
        → meters_at n (ended scheme_of (state_of c wanted key issued taken meters answers) calls)
        ≡ meters_by scheme_of c ((scheme_of c).answer_length ((scheme_of c).query wanted n key))
        (record { sent = sent_to scheme_of c past n; asked = stands n past.issued; had = stands n past.taken }) (named n room calls)
    tallied [] room past issued taken meters answers k = rw (k.agree-sent n, k.agree-got n)
    tallied (issuing server day query answer_day answer ∷ calls) room past issued taken meters answers k =
        let x = next scheme_of c admitted laws wanted inside key valid room past issued taken meters answers k (issuing server day query answer_day answer) in
        ap (λ (at : State). meters_at n (ended scheme_of at calls)) x.is
        ∙ tallied calls room _ x.issued x.taken x.meters x.answers x.kept
        ∙ named_by _ (named n room calls) (eqb server n) (tally_of past) _ _
        (issue-tally room past issued taken meters answers k server day answer_day query answer (eqb server n) refl) refl
    tallied (taking server answer ∷ calls) room past issued taken meters answers k =
        let x = next scheme_of c admitted laws wanted inside key valid room past issued taken meters answers k (taking server answer) in
        ap (λ (at : State). meters_at n (ended scheme_of at calls)) x.is
        ∙ tallied calls room _ x.issued x.taken x.meters x.answers x.kept
        ∙ named_by _ (named n room calls) (eqb server n) (tally_of past) _ _
        (take-tally room past issued taken meters answers k server answer (eqb server n) refl) refl
    tallied (recovering message ∷ calls) room past issued taken meters answers k =
        let x = next scheme_of c admitted laws wanted inside key valid room past issued taken meters answers k (recovering message) in
        ap (λ (at : State). meters_at n (ended scheme_of at calls)) x.is ∙ tallied calls room _ x.issued x.taken x.meters x.answers x.kept
