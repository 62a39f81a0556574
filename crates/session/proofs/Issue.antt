-- Laws of issue: it goes by its verdict (`issue-goes`); what an accepted verdict says (`issue-passed`), which is accepted (`issue-accepted`), and the
-- verdict on a sound session (`issue-sound`).
use mathlib.Core.Path.{◌≡◌, refl, sym}
use mathlib.Core.List.{List}
use Prim.Native.Nat.{ℕ, ◌+◌, ◌≤◌, ◌<◌}
use lib.Dec.{leb, ltb}
use lib.ListN.{length}
use borrow.Author.Tests.{lt-leb, ltb-false, le-ltb, not-false}
use Rattle.lists.specs.Parts.{put}
use Rattle.refusal.specs.Verdicts.{Verdict, accepted}
use Rattle.refusal.specs.Chain.{refuse_if, and_then}
use Rattle.refusal.proofs.Accepted.{first-accepted}
use Rattle.scheme.specs.Scheme.{Scheme}
use Rattle.calendar.specs.declared.Day.{Day}
use Rattle.catalogue.specs.declared.Catalogue.{Catalogue}
use Rattle.catalogue.specs.Days.{day_verdict, Served}
use Rattle.catalogue.proofs.Faults.{after-day}
use Rattle.session.specs.declared.Session.{Session}
use Rattle.session_parts.specs.Meters.{most_bytes, counted}
use Rattle.session.specs.Fields.{mark_issued}
use Rattle.session.specs.Calls.{code_of, query_of, ask_faults_on, issue_verdict, issue_by, issue}
use Rattle.session_checks.proofs.Links.{served-passed}
use Rattle.session.proofs.Sound.{Sound, holds-sound}
use Rattle.session.proofs.Goes.{Goes, goes}

module _ (scheme_of : Catalogue → Scheme) (s : Session) (day : Day) (server : ℕ) where
  -- what an accepted verdict says
  pub record Issues (room : ℕ) : Type 0 where
    pub sound : Sound scheme_of s
    pub served : Served s.catalogue day
    pub below : server < s.catalogue.servers
    pub roomy : (code_of scheme_of s).sizes.query ≤ room
    pub counts : counted s.meters.sent server + (code_of scheme_of s).sizes.query ≤ most_bytes

  pub issue-passed : (room : ℕ) → issue_verdict scheme_of s day server room ≡ accepted → Issues room
  unfolding issue_verdict
  issue-passed room e =
      let p = first-accepted (ask_faults_on scheme_of s day server) _ e in
      let q = served-passed scheme_of s.catalogue s.wanted s.key day server p.0 in
      let a = q.0 in
      record {
        sound = holds-sound scheme_of s a.holds (not-false _ p.1.1.0) (not-false _ p.1.1.1.0);
        served = q.1;
        below = a.below;
        roomy = ltb-false room (code_of scheme_of s).sizes.query p.1.0;
        counts = ltb-false most_bytes (counted s.meters.sent server + (code_of scheme_of s).sizes.query) p.1.1.1.1.0;
      }

  -- of a sound session, the day, the server, the room and the server's meter are left to ask
  pub issue-sound : Sound scheme_of s → (room : ℕ)
      → issue_verdict scheme_of s day server room
      ≡ and_then (day_verdict s.catalogue day)
      (refuse_if (leb s.catalogue.servers server) 3 (refuse_if (ltb room (code_of scheme_of s).sizes.query) 9
      (refuse_if (ltb most_bytes (counted s.meters.sent server + (code_of scheme_of s).sizes.query)) 16 accepted)))
  unfolding issue_verdict
  issue-sound sound room =
      sym (after-day s.catalogue day _ refl (day_verdict s.catalogue day) _ sound.admitted refl
      (rw (lt-leb s.catalogue.messages s.wanted sound.inside, sound.good, sound.marks, sound.meters)))

  pub issue-accepted : (room : ℕ) → Issues room → issue_verdict scheme_of s day server room ≡ accepted
  issue-accepted room i =
      rw (
        issue-sound i.sound room,
        i.served,
        lt-leb s.catalogue.servers server i.below,
        le-ltb room (code_of scheme_of s).sizes.query i.roomy,
        le-ltb most_bytes (counted s.meters.sent server + (code_of scheme_of s).sizes.query) i.counts,
      )

  module _ (buffer : List ℕ) where
    pub issue-goes : Goes (issue scheme_of s day server buffer) (issue_verdict scheme_of s day server (length buffer))
        s (mark_issued s server (code_of scheme_of s).sizes.query) buffer (put 0 (query_of scheme_of s server) buffer)
    unfolding issue
    issue-goes =
        goes s (mark_issued s server (code_of scheme_of s).sizes.query) buffer (put 0 (query_of scheme_of s server) buffer)
        (issue_verdict scheme_of s day server (length buffer))

    pub issue-by : (v : Verdict) → v ≡ issue_verdict scheme_of s day server (length buffer)
        → issue scheme_of s day server buffer ≡ issue_by scheme_of s server buffer v
    issue-by = issue-goes.by
