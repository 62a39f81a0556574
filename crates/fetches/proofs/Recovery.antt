-- What recover does in a fetch: its verdict goes by the calls made (`verdicts`), and after honest takes from all servers it gives the wanted message
-- (`messages`). It rests on `next`, and on the law that the honest answers recover.
use mathlib.Core.Path.{◌≡◌, sym, ap, ◌∙◌}
use mathlib.Core.Bool.{Bool, false, not}
use mathlib.Core.List.{List, [], ◌∷◌}
use Prim.Native.Nat.{ℕ, ◌≤◌, ◌<◌}
use native.Mathlib.Omega.{arith}
use borrow.Author.Tests.{le-ltb}
use lib.Dec.{ltb}
use lib.ListN.{length, take}
use Rattle.lists.specs.Distinct.{stands}
use Rattle.lists.specs.Parts.{put}
use Rattle.lists.specs.Below.{Below}
use Rattle.lists.proofs.Every.{every_true, every-false}
use Rattle.lists.proofs.Mapped.{map_range}
use Rattle.refusal.specs.Verdicts.{Verdict, accepted}
use Rattle.refusal.specs.Chain.{refused, refuse_if}
use Rattle.scheme.specs.Scheme.{Scheme, Valid, honest_answers, answers_in, recover_in}
use Rattle.scheme.specs.Laws.{Laws}
use Rattle.catalogue.specs.declared.Catalogue.{Catalogue}
use Rattle.catalogue.specs.Catalogue.{Admitted}
use Rattle.codes.specs.Messages.{message_length, message_in}
use Rattle.session.specs.declared.Session.{Session}
use Rattle.session_parts.specs.declared.Meters.{Meters}
use Rattle.session_parts.specs.Marks.{marked, all_taken}
use Rattle.session.specs.Calls.{slots_of, recovered_message, recover_verdict, recover}
use Rattle.session.proofs.Begin.{key-kept}
use Rattle.session.proofs.Recover.{recover-verdict, recover-by, recover-goes}
use Rattle.fetches.specs.Fetches.{Call, issuing, taking, recovering, make, run}
use Rattle.fetches.specs.Past.{Past, Throughout, end, step}
use Rattle.fetches.specs.Right.{AllTaken, RecoverSays, RecoverVerdict, HonestTake, MessageLeft}
use Rattle.fetches.proofs.Throughout.{now-holds, then-holds, from-state}
use Rattle.fetches.proofs.Kept.{session_of, state_of, Kept, Held}
use Rattle.fetches.proofs.Steps.{sound, next}

-- the message of a recover is known by the call
same-message : {a b : List ℕ} → recovering a ≡ recovering b → a ≡ b
same-message {a} {b} e = cc

module _ (scheme_of : Catalogue → Scheme) (c : Catalogue) (admitted : Admitted c) (laws : Laws c.servers c.messages (scheme_of c))
    (wanted : ℕ) (inside : wanted < c.messages) (key : List ℕ) (valid : Valid (scheme_of c) key) where
  module _ (room : ℕ) (past : Past) (issued taken : List Bool) (meters : Meters) (answers : List ℕ)
      (k : Kept scheme_of c wanted key room past issued taken meters answers) (message : List ℕ) where
    abbrev s : Session
    s = session_of c wanted key issued taken meters

    abbrev verdict : Verdict
    verdict = recover_verdict scheme_of s (length answers) (length message)

    verdict-left : verdict
        ≡ refuse_if (ltb room (slots_of scheme_of c)) 9
        (refuse_if (ltb (length message) (message_length scheme_of c wanted)) 9 (refuse_if (not (all_taken c.servers taken)) 12 accepted))
    verdict-left = rw (← k.room-kept)
        (recover-verdict scheme_of s (sound scheme_of c admitted laws wanted inside key valid room past issued taken meters answers k)
        (length answers) (length message))

    -- all are taken, by the calls and so by the marks
    all-verdict : AllTaken scheme_of c past → verdict
        ≡ refuse_if (ltb (length message) (message_length scheme_of c wanted)) 9 accepted
    unfolding all_taken
    all-verdict all =
        verdict-left
        ∙ rw (
          le-ltb room (slots_of scheme_of c) (k.roomy 0 (all 0 laws.servers-some)),
          every_true c.servers (marked taken) (λ i h. k.agree i ∙ all i h),
        )

    missing-verdict : (server : ℕ) → server < c.servers → stands server past.taken ≡ false
        → verdict
        ≡ refuse_if (ltb room (slots_of scheme_of c)) 9 (refuse_if (ltb (length message) (message_length scheme_of c wanted)) 9 (refused 12))
    unfolding all_taken
    missing-verdict server h lacks = verdict-left ∙ rw (every-false c.servers (marked taken) server h (k.agree server ∙ lacks))

    pub recover-right : RecoverSays scheme_of c wanted room past message (recover scheme_of s answers message).handed.verdict
    recover-right = record {
      all-taken = λ all. (recover-goes scheme_of s answers message).says ∙ all-verdict all;
      missing = λ server h lacks. (recover-goes scheme_of s answers message).says ∙ missing-verdict server h lacks;
    }

    -- the slots hold the honest answers
    module _ (store : List ℕ) (bytes : Below 256 store) (held : Held scheme_of c store wanted key past answers) (all : AllTaken scheme_of c past) where
      answers-honest : answers_in (scheme_of c) c.servers wanted key answers ≡ honest_answers (scheme_of c) c.servers store wanted key
      unfolding answers_in honest_answers
      answers-honest = map_range 0 c.servers _ _ (λ i l u. let h : i < c.servers = omega arith in (held i h (all i h)).holds)

      -- cut to the message's length, what is recovered is what the store holds
      gives : recovered_message scheme_of s answers ≡ message_in scheme_of c store wanted
      gives =
          ap (take (message_length scheme_of c wanted))
          (ap (λ (l : List ℕ). recover_in (scheme_of c) c.servers wanted l answers) (key-kept scheme_of c wanted key valid.long)
          ∙ ap ((scheme_of c).recover wanted key) answers-honest
          ∙ laws.recovers store wanted key bytes (held 0 laws.servers-some (all 0 laws.servers-some)).store_long inside valid)

      pub recover-message : message_length scheme_of c wanted ≤ length message
          → (recover scheme_of s answers message).buffer ≡ put 0 (message_in scheme_of c store wanted) message
      recover-message fits =
          let e : verdict ≡ accepted
          = rw (le-ltb (length message) (message_length scheme_of c wanted) fits) at (all-verdict all) in
          rw (recover-by scheme_of s answers message accepted (sym e), gives)

  -- over the calls of a fetch
  says : (room : ℕ) (past : Past) (issued taken : List Bool) (meters : Meters) (answers : List ℕ)
      → Kept scheme_of c wanted key room past issued taken meters answers → (call : Call)
      → RecoverVerdict scheme_of c wanted room past (make scheme_of (state_of c wanted key issued taken meters answers) call)
  says room past issued taken meters answers k (issuing server day query answer_day answer) message e =
      absurd (let z : ◌≡◌ {A = ℕ} 0 1 = cc in let w : ⊥ = omega arith in w)
  says room past issued taken meters answers k (taking server answer) message e = absurd (let z : ◌≡◌ {A = ℕ} 0 1 = cc in let w : ⊥ = omega arith in w)
  says room past issued taken meters answers k (recovering own) message e = rw (← same-message e) (recover-right room past issued taken meters answers k own)

  pub verdicts : (calls : List Call) (room : ℕ) (past : Past) (issued taken : List Bool) (meters : Meters) (answers : List ℕ)
      → Kept scheme_of c wanted key room past issued taken meters answers
      → Throughout (RecoverVerdict scheme_of c wanted room) past (run scheme_of (state_of c wanted key issued taken meters answers) calls)
  verdicts [] room past issued taken meters answers k = end
  verdicts (call ∷ calls) room past issued taken meters answers k =
      let x = next scheme_of c admitted laws wanted inside key valid room past issued taken meters answers k call in
      step (says room past issued taken meters answers k call)
      (from-state scheme_of calls x.is (verdicts calls room _ x.issued x.taken x.meters x.answers x.kept))

  module _ (store : List ℕ) (bytes : Below 256 store) where
    leaves : (room : ℕ) (past : Past) (issued taken : List Bool) (meters : Meters) (answers : List ℕ)
        → Kept scheme_of c wanted key room past issued taken meters answers
        → Held scheme_of c store wanted key past answers → (call : Call)
        → MessageLeft scheme_of c store wanted past (make scheme_of (state_of c wanted key issued taken meters answers) call)
    leaves room past issued taken meters answers k held (issuing server day query answer_day answer) message e =
        absurd (let z : ◌≡◌ {A = ℕ} 0 1 = cc in let w : ⊥ = omega arith in w)
    leaves room past issued taken meters answers k held (taking server answer) message e = absurd (let z : ◌≡◌ {A = ℕ} 0 1 = cc in let w : ⊥ = omega arith in w)
    leaves room past issued taken meters answers k held (recovering own) message e =
        rw (← same-message e) (λ all fits. recover-message room past issued taken meters answers k own store bytes held all fits)

    pub messages : (calls : List Call) (room : ℕ) (past : Past) (issued taken : List Bool) (meters : Meters) (answers : List ℕ)
        → Kept scheme_of c wanted key room past issued taken meters answers
        → Held scheme_of c store wanted key past answers
        → Throughout (HonestTake scheme_of c store wanted key) past (run scheme_of (state_of c wanted key issued taken meters answers) calls)
        → Throughout (MessageLeft scheme_of c store wanted) past (run scheme_of (state_of c wanted key issued taken meters answers) calls)
    messages [] room past issued taken meters answers k held honest = end
    messages (call ∷ calls) room past issued taken meters answers k held honest =
        let x = next scheme_of c admitted laws wanted inside key valid room past issued taken meters answers k call in
        step (leaves room past issued taken meters answers k held call)
        (from-state scheme_of calls x.is
        (messages calls room _ x.issued x.taken x.meters x.answers x.kept (x.held store held (now-holds honest))
        (from-state scheme_of calls (sym x.is) (then-holds honest))))
