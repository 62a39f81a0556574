-- Laws of recover: it goes by its verdict (`recover-goes`), and the session is always as it was (`recover-same`); what an accepted verdict says
-- (`recover-passed`), and the verdict on a sound session (`recover-verdict`).
use mathlib.Core.Path.{◌≡◌, refl, sym}
use mathlib.Core.Bool.{true, not}
use mathlib.Core.List.{List}
use Prim.Native.Nat.{ℕ, ◌≤◌}
use lib.Dec.{ltb}
use lib.ListN.{length}
use borrow.Author.Tests.{ltb-false, not-false}
use Rattle.lists.specs.Parts.{put}
use Rattle.std.specs.Prelude.{Ok, Err}
use Rattle.refusal.specs.Verdicts.{Verdict, accepted}
use Rattle.refusal.specs.Chain.{refuse_if}
use Rattle.refusal.proofs.Foremost.{after_first_lem}
use Rattle.refusal.proofs.Accepted.{first-accepted}
use Rattle.scheme.specs.Scheme.{Scheme}
use Rattle.catalogue.specs.declared.Catalogue.{Catalogue}
use Rattle.session.specs.declared.Session.{Session}
use Rattle.session_parts.specs.Marks.{all_taken}
use Rattle.session.specs.Calls.{slots_of, own_faults, wanted_length, recovered_message, recover_verdict, recover_by, recover}
use Rattle.session_checks.proofs.Links.{session-passed, session-accepted}
use Rattle.session.proofs.Sound.{Sound, holds-sound, sound-holds}
use Rattle.session.proofs.Goes.{Goes, goes}

module _ (scheme_of : Catalogue → Scheme) (s : Session) where
  -- what an accepted verdict says
  pub record Recovers (answers_room room : ℕ) : Type 0 where
    pub sound : Sound scheme_of s
    pub slots-fit : slots_of scheme_of s.catalogue ≤ answers_room
    pub roomy : wanted_length scheme_of s ≤ room
    pub all-taken : all_taken s.catalogue.servers s.taken ≡ true

  pub recover-passed : (answers_room room : ℕ) → recover_verdict scheme_of s answers_room room ≡ accepted → Recovers answers_room room
  unfolding recover_verdict
  recover-passed answers_room room e =
      let p = first-accepted (own_faults scheme_of s) _ e in
      let n = p.1 in
      record {
        sound = holds-sound scheme_of s (session-passed scheme_of s.catalogue s.wanted s.key p.0) (not-false _ n.1.1.0)
            (not-false _ n.1.1.1.0);
        slots-fit = ltb-false answers_room (slots_of scheme_of s.catalogue) n.0;
        roomy = ltb-false room (wanted_length scheme_of s) n.1.0;
        all-taken = not-false _ n.1.1.1.1.0;
      }

  -- of a sound session, the rooms and the answers are left to ask
  pub recover-verdict : Sound scheme_of s → (answers_room room : ℕ)
      → recover_verdict scheme_of s answers_room room
      ≡ refuse_if (ltb answers_room (slots_of scheme_of s.catalogue)) 9
      (refuse_if (ltb room (wanted_length scheme_of s)) 9 (refuse_if (not (all_taken s.catalogue.servers s.taken)) 12 accepted))
  unfolding recover_verdict
  recover-verdict sound answers_room room =
      let own = session-accepted scheme_of s.catalogue s.wanted s.key (sound-holds scheme_of s sound) in
      sym (after_first_lem (own_faults scheme_of s) _ refl refl accepted _ (sym own) (rw (sound.marks, sound.meters)))

  module _ (answers buffer : List ℕ) where
    pub recover-goes : Goes (recover scheme_of s answers buffer) (recover_verdict scheme_of s (length answers) (length buffer))
        s s buffer (put 0 (recovered_message scheme_of s answers) buffer)
    unfolding recover
    recover-goes = goes s s buffer (put 0 (recovered_message scheme_of s answers) buffer) (recover_verdict scheme_of s (length answers) (length buffer))

    pub recover-by : (v : Verdict) → v ≡ recover_verdict scheme_of s (length answers) (length buffer)
        → recover scheme_of s answers buffer ≡ recover_by scheme_of s answers buffer v
    recover-by = recover-goes.by

    pub recover-same : (recover scheme_of s answers buffer).handed.session ≡ s
    recover-same = go (recover_verdict scheme_of s (length answers) (length buffer)) refl
      where
        go : (v : Verdict) → v ≡ recover_verdict scheme_of s (length answers) (length buffer) → (recover scheme_of s answers buffer).handed.session ≡ s
        go (Ok _) e = rw (recover-by accepted e)
        go (Err refusal) e = rw (recover-by (Err refusal) e)
