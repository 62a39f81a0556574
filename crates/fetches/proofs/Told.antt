-- Issue and take say what the calls made before them call for (`all_told`): a fetch's session stays sound, so only its marks and meters are left to ask, and
-- these agree with the calls (`Kept`).
use mathlib.Core.Path.{◌≡◌, refl, sym, ap, ◌∙◌}
use mathlib.Core.Bool.{Bool, true, false, not}
use mathlib.Core.List.{List, [], ◌∷◌}
use Prim.Native.Nat.{ℕ, ◌<◌}
use native.Mathlib.Omega.{arith}
use borrow.Author.Tests.{leb-false}
use lib.Dec.{leb, ltb, eqb}
use lib.ListN.{length}
use Rattle.lists.specs.Parts.{put}
use Rattle.refusal.specs.Verdicts.{accepted}
use Rattle.refusal.specs.Chain.{refuse_if}
use Rattle.scheme.specs.Scheme.{Scheme, Valid}
use Rattle.scheme.specs.Laws.{Laws}
use Rattle.calendar.specs.declared.Day.{Day}
use Rattle.catalogue.specs.declared.Catalogue.{Catalogue}
use Rattle.catalogue.specs.Catalogue.{Admitted}
use Rattle.session.specs.declared.Session.{Session}
use Rattle.session_parts.specs.declared.Meters.{Meters}
use Rattle.session_parts.specs.Marks.{marked}
use Rattle.session.specs.Calls.{query_of, slots_of, take_verdict}
use Rattle.session.proofs.Issue.{issue-by, issue-goes, issue-sound}
use Rattle.session.proofs.Take.{take-goes, take-sound}
use Rattle.session.proofs.Sound.{Sound}
use Rattle.fetches.specs.Fetches.{Call, issuing, taking, recovering, Made, make, run}
use Rattle.fetches.specs.Past.{Past, Throughout, end, step}
use Rattle.fetches.specs.Told.{sent_to, issue_says, take_says, Told}
use Rattle.fetches.proofs.Throughout.{from-state}
use Rattle.fetches.proofs.Kept.{session_of, state_of, Kept}
use Rattle.fetches.proofs.Steps.{kept-query, sound, next}

-- a call is one of its kind
module _ {A : Type 0} where
  not-take : {server other : ℕ} {day answer_day : Day} {query answer own : List ℕ} → issuing server day query answer_day answer ≡ taking other own → A
  not-take {server} {other} {day} {answer_day} {query} {answer} {own} e = absurd (let z : ◌≡◌ {A = ℕ} 0 1 = cc in let w : ⊥ = omega arith in w)

  not-issue : {server other : ℕ} {day answer_day : Day} {query answer own : List ℕ} → taking other own ≡ issuing server day query answer_day answer → A
  not-issue {server} {other} {day} {answer_day} {query} {answer} {own} e = absurd (let z : ◌≡◌ {A = ℕ} 0 1 = cc in let w : ⊥ = omega arith in w)

  recover-no-issue : {server : ℕ} {day answer_day : Day} {query answer message : List ℕ} → recovering message ≡ issuing server day query answer_day answer → A
  recover-no-issue {server} {day} {answer_day} {query} {answer} {message} e = absurd (let z : ◌≡◌ {A = ℕ} 0 1 = cc in let w : ⊥ = omega arith in w)

  recover-no-take : {server : ℕ} {answer message : List ℕ} → recovering message ≡ taking server answer → A
  recover-no-take {server} {answer} {message} e = absurd (let z : ◌≡◌ {A = ℕ} 0 1 = cc in let w : ⊥ = omega arith in w)

same-issue : {server other : ℕ} {day day' answer_day answer_day' : Day} {query answer query' answer' : List ℕ}
    → issuing server day query answer_day answer ≡ issuing other day' query' answer_day' answer' → (server ≡ other) × (day ≡ day') × (query ≡ query')
same-issue {server} {other} {day} {day'} {answer_day} {answer_day'} {query} {answer} {query'} {answer'} e = (cc, cc, cc)

same-take : {server other : ℕ} {answer answer' : List ℕ} → taking server answer ≡ taking other answer' → (server ≡ other) × (answer ≡ answer')
same-take {server} {other} {answer} {answer'} e = (cc, cc)

module _ (scheme_of : Catalogue → Scheme) (c : Catalogue) (admitted : Admitted c) (laws : Laws c.servers c.messages (scheme_of c))
    (wanted : ℕ) (inside : wanted < c.messages) (key : List ℕ) (valid : Valid (scheme_of c) key) where
  module _ (room : ℕ) (past : Past) (issued taken : List Bool) (meters : Meters) (answers : List ℕ)
      (k : Kept scheme_of c wanted key room past issued taken meters answers) where
    abbrev s : Session
    s = session_of c wanted key issued taken meters

    good : Sound scheme_of s
    good = sound scheme_of c admitted laws wanted inside key valid room past issued taken meters answers k

    abbrev made : Call → Made
    made call = make scheme_of (state_of c wanted key issued taken meters answers) call

    issue-told : (server : ℕ) (day answer_day : Day) (query answer : List ℕ)
        → (made (issuing server day query answer_day answer)).verdict ≡ issue_says scheme_of c (sent_to scheme_of c past server) day server (length query)
    issue-told server day answer_day query answer =
        (issue-goes scheme_of s day server query).says ∙ issue-sound scheme_of s day server good (length query)
        ∙ ap (λ (before : ℕ). issue_says scheme_of c before day server (length query)) (k.agree-sent server)

    query-told : (server : ℕ) (day answer_day : Day) (query answer : List ℕ) → (made (issuing server day query answer_day answer)).verdict ≡ accepted
        → (made (issuing server day query answer_day answer)).left ≡ put 0 ((scheme_of c).query wanted server key) query
    query-told server day answer_day query answer e =
        rw (
          issue-by scheme_of s day server query accepted (sym e ∙ (issue-goes scheme_of s day server query).says),
          kept-query scheme_of c admitted laws wanted inside key valid issued taken meters server,
        )

    take-told : (server size : ℕ) → take_verdict scheme_of s server size (length answers) ≡ take_says scheme_of c wanted key room past server size
    take-told server size = take-sound scheme_of s server good size (length answers) ∙ go (leb c.servers server) refl
      where
        go : (t : Bool) → leb c.servers server ≡ t
            → refuse_if (leb c.servers server) 3
            (refuse_if (ltb (length answers) (slots_of scheme_of c)) 9
            (refuse_if (not (eqb size ((scheme_of c).answer_length (query_of scheme_of s server)))) 10
            (refuse_if (not (marked issued server)) 11 (refuse_if (marked taken server) 11 accepted))))
            ≡ take_says scheme_of c wanted key room past server size
        go true e = rw e
        go false e =
            let below = leb-false c.servers server e in
            rw (
              e,
              k.room-kept,
              kept-query scheme_of c admitted laws wanted inside key valid issued taken meters server,
              k.agree-issued server,
              k.agree server,
            )

    pub told : (call : Call) → Told scheme_of c wanted key room past (make scheme_of (state_of c wanted key issued taken meters answers) call)
    told (issuing server day query answer_day answer) = record {
      issues = λ other day' answer_day' query' answer' e.
          let same = same-issue e in rw (← same.0, ← same.1, ← same.2) (issue-told server day answer_day query answer);
      queries = λ other day' answer_day' query' answer' e v.
          let same = same-issue e in rw (← same.0, ← same.2) (query-told server day answer_day query answer v);
      takes = λ other own e. not-take e;
    }
    told (taking server answer) = record {
      issues = λ other day answer_day query answer' e. not-issue e;
      queries = λ other day answer_day query answer' e v. not-issue e;
      takes = λ other answer' e.
          let same = same-take e in
          rw (← same.0, ← same.1) ((take-goes scheme_of s server answer answers).says ∙ take-told server (length answer));
    }
    told (recovering message) = record {
      issues = λ other day answer_day query answer e. recover-no-issue e;
      queries = λ other day answer_day query answer e v. recover-no-issue e;
      takes = λ other answer e. recover-no-take e;
    }

  pub all_told : (calls : List Call) (room : ℕ) (past : Past) (issued taken : List Bool) (meters : Meters) (answers : List ℕ)
      → Kept scheme_of c wanted key room past issued taken meters answers
      → Throughout (Told scheme_of c wanted key room) past (run scheme_of (state_of c wanted key issued taken meters answers) calls)
  all_told [] room past issued taken meters answers k = end
  all_told (call ∷ calls) room past issued taken meters answers k =
      let x = next scheme_of c admitted laws wanted inside key valid room past issued taken meters answers k call in
      step (told room past issued taken meters answers k call)
      (from-state scheme_of calls x.is (all_told calls room _ x.issued x.taken x.meters x.answers x.kept))
