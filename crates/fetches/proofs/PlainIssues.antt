-- The issues of a plain fetch and what follows them (`issues-end`): the session is sound throughout, so that none is refused, and then come the takes.
use mathlib.Core.Path.{◌≡◌, refl, sym, ◌∙◌}
use mathlib.Core.Bool.{Bool, true, false, cond}
use mathlib.Core.List.{List, [], ◌∷◌, ◌++◌, map}
use Prim.Native.Nat.{ℕ, zero, suc, ◌+◌, ◌≤◌, ◌<◌}
use native.Mathlib.Nat.{not-suc-le-zero, zero-add}
use native.Mathlib.Omega.{arith}
use borrow.Author.Tests.{eqb-true, eqb-false, ne_eqb}
use lib.Dec.{eqb}
use lib.ListN.{length, set}
use Rattle.lists.specs.Parts.{put}
use Rattle.lists.specs.Below.{Below}
use Rattle.lists.specs.Distinct.{stands}
use Rattle.lists.specs.Ranges.{range}
use Rattle.scheme.specs.Scheme.{Scheme, Valid}
use Rattle.scheme.specs.Laws.{Laws}
use Rattle.calendar.specs.declared.Day.{Day}
use Rattle.refusal.specs.Verdicts.{accepted}
use Rattle.catalogue.specs.declared.Catalogue.{Catalogue}
use Rattle.catalogue.specs.Catalogue.{Admitted}
use Rattle.catalogue.specs.Days.{Served}
use Rattle.codes.specs.Messages.{message_length, message_in}
use Rattle.session.specs.declared.Session.{Session}
use Rattle.session_parts.specs.declared.Meters.{Meters}
use Rattle.session_parts.specs.Marks.{no_marks, marked}
use Rattle.session_parts.specs.Meters.{most_bytes, counted, count_issued}
use Rattle.session.specs.Calls.{slots_of, issue_verdict}
use Rattle.session_parts.proofs.Marks.{mark_set, mark-other}
use Rattle.session.proofs.Issue.{issue-accepted, issue-by}
use Rattle.fetches.specs.Fetches.{Call, issuing, taking, recovering, Made, run}
use Rattle.fetches.specs.Told.{bytes_to}
use Rattle.fetches.specs.Plain.{Ends, later, answer_of}
use Rattle.fetches.proofs.Kept.{session_of, state_of, Kept}
use Rattle.fetches.proofs.Steps.{sound, issue-kept}
use Rattle.fetches.proofs.Theorem.{held_first}
use Rattle.fetches.proofs.PlainTakes.{takes-end}

module _ (scheme_of : Catalogue → Scheme) (c : Catalogue) (admitted : Admitted c) (laws : Laws c.servers c.messages (scheme_of c))
    (wanted : ℕ) (inside : wanted < c.messages) (key : List ℕ) (valid : Valid (scheme_of c) key)
    (store : List ℕ) (bytes : Below 256 store) (long : length store ≡ (scheme_of c).sizes.store)
    (message : List ℕ) (fits : message_length scheme_of c wanted ≤ length message) (room : ℕ) (roomy : slots_of scheme_of c ≤ room)
    (day answer_day : ℕ → Day) (in-season : (server : ℕ) → server < c.servers → Served c (day server) × Served c (answer_day server))
    (small : (scheme_of c).sizes.query ≤ most_bytes) where
  abbrev answer_from : ℕ → List ℕ
  answer_from = answer_of scheme_of c store wanted key

  abbrev End : Made → Type 0
  End made = made.left ≡ put 0 (message_in scheme_of c store wanted) message

  -- the calls from the take of server `from` on, and from its issue on
  abbrev takes_from : ℕ → ℕ → List Call
  takes_from from count = map (λ (server : ℕ). taking server (answer_from server)) (range from count) ++ (recovering message ∷ [])

  abbrev issues_from : List ℕ → List ℕ → ℕ → ℕ → List Call
  issues_from query answer from count =
      map (λ (server : ℕ). issuing server (day server) query (answer_day server) answer) (range from count) ++ takes_from 0 c.servers

  -- those before `from` were issued
  pub issues-end : (query answer : List ℕ) → (scheme_of c).sizes.query ≤ length query → (count from : ℕ) → from + count ≡ c.servers
      → (issued : List Bool) (meters : Meters) (to answers : List ℕ)
      → Kept scheme_of c wanted key room (record { issued = to; taken = [] }) issued no_marks meters answers
      → ((i : ℕ) → i < from → marked issued i ≡ true) → ((i : ℕ) → from ≤ i → bytes_to (scheme_of c).sizes.query i to ≡ 0)
      → Ends End (run scheme_of (state_of c wanted key issued no_marks meters answers) (issues_from query answer from count))
  unfolding range stands bytes_to
  issues-end query answer room_for zero from e issued meters to answers k had none =
      takes-end scheme_of c admitted laws wanted inside key valid store bytes long message fits room roomy day answer_day in-season small c.servers 0 (omega (arith, zero-add c.servers)) issued no_marks meters (record { issued = to; taken = [] }) answers k
      (held_first scheme_of c store wanted key answers)
      (λ i h. had i (omega arith)) (λ i h. absurd (not-suc-le-zero h)) (λ i h. refl)
  issues-end query answer room_for (suc count) from e issued meters to answers k had none =
      let below : from < c.servers = omega arith in
      let s : Session = session_of c wanted key issued no_marks meters in
      let counts : counted meters.sent from + (scheme_of c).sizes.query ≤ most_bytes =
      let w = k.agree-sent from in let z = none from (omega arith) in omega (arith, w, z, small) in
      let agrees : issue_verdict scheme_of s (day from) from (length query) ≡ accepted = issue-accepted scheme_of s (day from) from (length query) (record {
        sound = sound scheme_of c admitted laws wanted inside key valid room (record { issued = to; taken = [] }) issued no_marks meters answers k;
        served = (in-season from below).0;
        below = below;
        roomy = room_for;
        counts = counts;
      }) in
      rw (issue-by scheme_of s (day from) from query accepted (sym agrees))
      (later refl
      (issues-end query answer room_for count (suc from) (omega arith)
      (set issued from true) (count_issued meters from (scheme_of c).sizes.query) (from ∷ to) answers
      (issue-kept scheme_of c admitted laws wanted inside key valid room (record { issued = to; taken = [] }) issued no_marks meters answers k from below counts)
      (λ i l. had-more i l (eqb i from) refl) (λ i l. none_more i l)))
    where
      none_more : (i : ℕ) → suc from ≤ i → cond (eqb i from) (scheme_of c).sizes.query 0 + bytes_to (scheme_of c).sizes.query i to ≡ 0
      none_more i l = rw (ne_eqb i from (λ q. omega arith)) (zero-add (bytes_to (scheme_of c).sizes.query i to) ∙ none i (omega arith))

      had-more : (i : ℕ) → i < suc from → (b : Bool) → eqb i from ≡ b → marked (set issued from true) i ≡ true
      had-more i l true q = rw (eqb-true i from q) (mark_set issued from (omega (arith, k.marks.issued-long, laws.servers-fit)))
      had-more i l false q =
          let ne : (i ≡ from → ⊥) = eqb-false i from q in
          mark-other issued from i ne ∙ had i (omega (arith, ne))
