-- A fetch receives no more than the bound (`bound-holds`): each server's answer is taken at most once, and fits a slot.
use mathlib.Core.Path.{◌≡◌, refl, sym, ap, ◌∙◌}
use mathlib.Core.Bool.{Bool, true, false, ◌||◌}
use mathlib.Core.List.{List, [], ◌∷◌, map}
use Prim.Native.Nat.{ℕ, zero, suc, ◌+◌, ◌*◌, ◌≤◌, ◌<◌}
use native.Mathlib.Nat.{not-suc-le-zero, suc-mul, mul-le-mul_right, zero-add, zero-mul}
use native.Mathlib.Omega.{arith}
use borrow.Author.Tests.{eqb-true, eqb-false, ne_eqb}
use lib.Dec.{eqb}
use lib.ListN.{length}
use Rattle.lists.specs.Distinct.{stands}
use Rattle.lists.specs.Ranges.{range}
use Rattle.scheme.specs.Scheme.{Scheme, Valid, honest_answers}
use Rattle.scheme.specs.Laws.{Laws}
use Rattle.std.specs.Prelude.{Ok, Err}
use Rattle.refusal.specs.Verdicts.{Verdict, accepted}
use Rattle.catalogue.specs.declared.Catalogue.{Catalogue}
use Rattle.catalogue.specs.Catalogue.{Admitted}
use Rattle.session.specs.declared.Session.{Session}
use Rattle.session_parts.specs.declared.Meters.{Meters}
use Rattle.session_parts.specs.Marks.{no_marks}
use Rattle.session_parts.specs.Meters.{no_meters}
use Rattle.session.specs.Calls.{slots_of, issue, take_verdict}
use Rattle.session.proofs.ByteBound.{bound-done}
use Rattle.session.proofs.Take.{take-passed, take_by_lem}
use Rattle.fetches.specs.Fetches.{Call, issuing, taking, recovering, Made, make, run}
use Rattle.fetches.specs.Past.{Past, nothing, past_by, since}
use Rattle.fetches.specs.Claim.{Promises}
use Rattle.fetches.specs.Received.{received_by, received, bytes_of, Bounded}
use Rattle.fetches.proofs.Kept.{session_of, state_of, Kept}
use Rattle.fetches.proofs.Steps.{kept-query, fits-slot, next}
use Rattle.fetches.proofs.Theorem.{kept-first, begun}

-- how many of the servers below n were taken
one : Bool → ℕ
one true = 1
one false = 0

taken : ℕ → List ℕ → ℕ
taken zero got = 0
taken (suc n) got = taken n got + one (stands n got)

taken-most : (n : ℕ) (got : List ℕ) → taken n got ≤ n
unfolding taken one
taken-most zero got = omega arith
taken-most (suc n) got = let below = taken-most n got in omega (arith, small (stands n got))
  where
    small : (b : Bool) → one b ≤ 1
    small true = omega arith
    small false = omega arith

-- one more is taken
taken-past : (n server : ℕ) (got : List ℕ) → n ≤ server → taken n (server ∷ got) ≡ taken n got
unfolding taken stands
taken-past zero server got h = refl
taken-past (suc n) server got h = rw (ne_eqb n server (λ q. omega arith), taken-past n server got (omega arith))

taken_more : (n server : ℕ) (got : List ℕ) → server < n → stands server got ≡ false → taken n (server ∷ got) ≡ suc (taken n got)
unfolding taken one stands
taken_more zero server got h e = absurd (not-suc-le-zero h)
taken_more (suc n) server got h e = go (λ l. taken_more n server got l e) (eqb n server) refl
  where
    go : (server < n → taken n (server ∷ got) ≡ suc (taken n got)) → (b : Bool) → eqb n server ≡ b
        → taken n (server ∷ got) + one (b || stands n got) ≡ suc (taken n got + one (stands n got))
    go below true q =
        let same : n ≡ server = eqb-true n server q in
        let past = taken-past n server got (omega arith) in
        rw (past, same, e) (omega arith)
    go below false q = let ne : (n ≡ server → ⊥) = eqb-false n server q in rw (below (omega (arith, ne))) (omega arith)

module _ (scheme_of : Catalogue → Scheme) (c : Catalogue) (admitted : Admitted c) (laws : Laws c.servers c.messages (scheme_of c)) where
  abbrev slot : ℕ
  slot = (scheme_of c).sizes.slot

  module _ (wanted : ℕ) (inside : wanted < c.messages) (key : List ℕ) (valid : Valid (scheme_of c) key) where
    -- a call that takes a server's answer, no longer than a slot, takes one server more
    module _ (room : ℕ) (past : Past) (issued marks : List Bool) (meters : Meters) (answers : List ℕ)
        (k : Kept scheme_of c wanted key room past issued marks meters answers) where
      abbrev s : Session
      s = session_of c wanted key issued marks meters

      abbrev made : Call → Made
      made call = make scheme_of (state_of c wanted key issued marks meters answers) call

      abbrev Grows : Call → Type 0
      Grows call =
          received_by (made call).call (made call).verdict + taken c.servers past.taken * slot
          ≤ taken c.servers (since past (made call)).taken * slot

      grows : (call : Call) → Grows call
      grows (issuing server day query answer_day answer) = issued-grows (issue scheme_of s day server query).handed.verdict
        where
          issued-grows : (v : Verdict)
              → 0 + taken c.servers past.taken * slot ≤ taken c.servers (past_by (issuing server day query answer_day answer) v past).taken * slot
          issued-grows (Ok _) = omega arith
          issued-grows (Err refusal) = omega arith
      grows (recovering message) = omega arith
      grows (taking server answer) = go (take_verdict scheme_of s server (length answer) (length answers)) refl
        where
          go : (v : Verdict) → v ≡ take_verdict scheme_of s server (length answer) (length answers) → Grows (taking server answer)
          go (Ok _) e =
              let t = take-passed scheme_of s server (length answer) (length answers) (sym e) in
              let sized : length answer ≡ (scheme_of c).answer_length ((scheme_of c).query wanted server key)
              = t.sized ∙ ap (scheme_of c).answer_length (kept-query scheme_of c admitted laws wanted inside key valid issued marks meters server) in
              let fits = fits-slot scheme_of c admitted laws wanted inside key valid server t.below in
              let count = taken_more c.servers server past.taken t.below (sym (k.agree server) ∙ t.not_taken) in
              rw (take_by_lem scheme_of s server answer answers accepted e, count, suc-mul) (omega arith)
          go (Err refusal) e = rw (take_by_lem scheme_of s server answer answers (Err refusal) e) (omega arith)

    receives : (calls : List Call) (room : ℕ) (past : Past) (issued marks : List Bool) (meters : Meters) (answers : List ℕ)
        → Kept scheme_of c wanted key room past issued marks meters answers
        → received (run scheme_of (state_of c wanted key issued marks meters answers) calls) + taken c.servers past.taken * slot ≤ slots_of scheme_of c
    receives [] room past issued marks meters answers k = omega (arith, mul-le-mul_right slot (taken-most c.servers past.taken))
    receives (call ∷ calls) room past issued marks meters answers k =
        let x = next scheme_of c admitted laws wanted inside key valid room past issued marks meters answers k call in
        let rest = receives calls room _ x.issued x.taken x.meters x.answers x.kept in
        let more = grows room past issued marks meters answers k call in
        rw x.is (omega arith)

  -- the honest answers, of the servers from `from` on
  honest-fit : (store : List ℕ) → length store ≡ (scheme_of c).sizes.store → (wanted : ℕ) → wanted < c.messages → (key : List ℕ) → Valid (scheme_of c) key
      → (count from : ℕ) → from + count ≡ c.servers
      → bytes_of (map (λ (server : ℕ). (scheme_of c).answer store ((scheme_of c).query wanted server key)) (range from count)) ≤ count * slot
  unfolding range
  honest-fit store long wanted inside key valid zero from e = omega (arith, zero-mul slot)
  honest-fit store long wanted inside key valid (suc count) from e =
      let h : from < c.servers = omega arith in
      let admits = laws.query-admitted wanted from key inside h valid in
      let sized = laws.answer-length from store ((scheme_of c).query wanted from key) long admits in
      let fits = laws.answer-fits from ((scheme_of c).query wanted from key) admits in
      let rest = honest-fit store long wanted inside key valid count (suc from) (omega arith) in
      omega (arith, suc-mul count slot)

  bounded : Bounded scheme_of c
  unfolding honest_answers
  bounded = record {
    given = bound-done scheme_of c accepted (sym admitted) refl;
    taken = λ f inside valid.
        let most = receives f.wanted inside f.key valid f.calls (length f.answers) nothing no_marks no_marks no_meters f.answers
        (kept-first scheme_of c f.wanted f.key f.answers) in
        rw (begun scheme_of c admitted laws f.wanted inside f.key valid) (omega arith);
    honest = λ store long wanted inside key valid. honest-fit store long wanted inside key valid c.servers 0 (zero-add c.servers);
  }

pub bound-holds : (scheme_of : Catalogue → Scheme) → Promises scheme_of → (c : Catalogue) → Admitted c → Bounded scheme_of c
bound-holds scheme_of promises c admitted = bounded scheme_of c admitted (promises c admitted)
