-- Laws of take: it goes by its verdict (`take-goes`); what an accepted verdict says (`take-passed`), which is accepted (`take-accepted`), and the
-- verdict on a sound session (`take-sound`).
use mathlib.Core.Path.{◌≡◌, refl, sym}
use mathlib.Core.Bool.{true, false, not}
use mathlib.Core.List.{List}
use Prim.Native.Nat.{ℕ, ◌*◌, ◌≤◌, ◌<◌}
use lib.Dec.{leb, ltb, eqb}
use lib.ListN.{length}
use borrow.Author.Tests.{lt-leb, ltb-false, le-ltb, eqb-true, eq-eqb, not-false}
use Rattle.lists.specs.Parts.{put}
use Rattle.refusal.specs.Verdicts.{Verdict, accepted}
use Rattle.refusal.specs.Chain.{refuse_if}
use Rattle.refusal.proofs.Accepted.{first-accepted}
use Rattle.scheme.specs.Scheme.{Scheme}
use Rattle.catalogue.specs.declared.Catalogue.{Catalogue}
use Rattle.catalogue.proofs.Faults.{after-catalogue}
use Rattle.session.specs.declared.Session.{Session}
use Rattle.parameters.specs.Measures.{most_servers}
use Rattle.session_parts.specs.Marks.{marked}
use Rattle.session_parts.specs.Meters.{counted}
use Rattle.session_parts.proofs.Metering.{meters-at, none-got}
use Rattle.session_checks.specs.Checks.{answer_bytes}
use Rattle.session.specs.Fields.{mark_taken}
use Rattle.session.specs.Calls.{code_of, key_of, query_of, slots_of, ask_faults, take_verdict, take_by, take_answer}
use Rattle.session_checks.proofs.Links.{server-passed}
use Rattle.session.proofs.Sound.{Sound, holds-sound}
use Rattle.session.proofs.Goes.{Goes, goes}

module _ (scheme_of : Catalogue → Scheme) (s : Session) (server : ℕ) where
  -- what an accepted verdict says
  pub record Takes (size room : ℕ) : Type 0 where
    pub sound : Sound scheme_of s
    pub below : server < s.catalogue.servers
    pub roomy : slots_of scheme_of s.catalogue ≤ room
    pub sized : size ≡ (code_of scheme_of s).answer_length (query_of scheme_of s server)
    pub was-issued : marked s.issued server ≡ true
    pub not_taken : marked s.taken server ≡ false

  pub take-passed : (size room : ℕ) → take_verdict scheme_of s server size room ≡ accepted → Takes size room
  unfolding take_verdict
  take-passed size room e =
      let p = first-accepted (ask_faults scheme_of s server) _ e in
      let a = server-passed scheme_of s.catalogue s.wanted s.key server p.0 in
      let due = p.1.1.1 in
      record {
        sound = holds-sound scheme_of s a.holds (not-false _ due.0) (not-false _ due.1.0);
        below = a.below;
        roomy = ltb-false room (slots_of scheme_of s.catalogue) p.1.0;
        sized = eqb-true size ((code_of scheme_of s).answer_length (query_of scheme_of s server)) (not-false _ p.1.1.0);
        was-issued = not-false _ due.1.1.0;
        not_taken = due.1.1.1.0;
      }

  -- nothing was taken from the server before
  pub take-first : (size room : ℕ) → Takes size room → server < most_servers → counted s.meters.got server ≡ 0
  take-first size room t h =
      let due = answer_bytes scheme_of s.catalogue s.wanted (key_of scheme_of s) in
      let g = meters-at (code_of scheme_of s).sizes.query due s.issued s.taken s.meters t.sound.meters server h in
      none-got (due server) (counted s.meters.got server) (rw t.not_taken at g.got)

  -- of a sound session, the server, the room, the length and the server's own marks are left to ask
  pub take-sound : Sound scheme_of s → (size room : ℕ)
      → take_verdict scheme_of s server size room
      ≡ refuse_if (leb s.catalogue.servers server) 3
      (refuse_if (ltb room (slots_of scheme_of s.catalogue)) 9
      (refuse_if (not (eqb size ((code_of scheme_of s).answer_length (query_of scheme_of s server)))) 10
      (refuse_if (not (marked s.issued server)) 11 (refuse_if (marked s.taken server) 11 accepted))))
  unfolding take_verdict
  take-sound sound size room =
      sym (after-catalogue s.catalogue _ refl accepted _ (sym sound.admitted)
      (rw (lt-leb s.catalogue.messages s.wanted sound.inside, sound.good, sound.marks, sound.meters)))

  pub take-accepted : (size room : ℕ) → Takes size room → take_verdict scheme_of s server size room ≡ accepted
  take-accepted size room t =
      rw (
        take-sound t.sound size room,
        lt-leb s.catalogue.servers server t.below,
        le-ltb room (slots_of scheme_of s.catalogue) t.roomy,
        eq-eqb size ((code_of scheme_of s).answer_length (query_of scheme_of s server)) t.sized,
        t.was-issued,
        t.not_taken,
      )

  module _ (answer buffer : List ℕ) where
    pub take-goes : Goes (take_answer scheme_of s server answer buffer) (take_verdict scheme_of s server (length answer) (length buffer))
        s (mark_taken s server (length answer)) buffer (put (server * (code_of scheme_of s).sizes.slot) answer buffer)
    unfolding take_answer
    take-goes =
        goes s (mark_taken s server (length answer)) buffer (put (server * (code_of scheme_of s).sizes.slot) answer buffer)
        (take_verdict scheme_of s server (length answer) (length buffer))

    pub take_by_lem : (v : Verdict) → v ≡ take_verdict scheme_of s server (length answer) (length buffer)
        → take_answer scheme_of s server answer buffer ≡ take_by scheme_of s server answer buffer v
    take_by_lem = take-goes.by
