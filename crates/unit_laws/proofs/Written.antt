-- Bytes that are written to register 2 one after another: up to 32 they are the query, and past that the overrun bit is set: `written`.
use mathlib.Core.Path.{◌≡◌, refl, sym, ap, ◌∙◌}
use mathlib.Core.Bool.{Bool, true, false, cond}
use mathlib.Core.List.{List, [], ◌∷◌, ◌++◌, append-nil}
use Prim.Native.Nat.{ℕ, ◌+◌, ◌≤◌, ◌<◌}
use native.Mathlib.Numerals.{add-one}
use native.Mathlib.Omega.{arith}
use lib.Dec.{ltb}
use lib.ListN.{length, set}
use lib.Seq.{take-suc-set, append_snoc}
use borrow.Author.Tests.{ltb-true, ltb-false, lt-ltb, le-ltb}
use Rattle.answer_unit.specs.declared.AnswerUnit.{AnswerUnit}
use Rattle.answer_unit.specs.Unit.{with_query, asked}
use Rattle.answer_unit.specs.Registers.{access_verdict, append, after_write, write_register}
use Rattle.answer_unit.proofs.Steps.{write-by}
use Rattle.unit_laws.specs.Runs.{Access, writing, run, Sound, writing_all}
use Rattle.unit_laws.specs.Claims.{Keeps}
use Rattle.unit_laws.proofs.Seen.{any-register}
use Rattle.unit_laws.proofs.Kept.{same, chained, access-keeps, still-done}
use Rattle.refusal.specs.Verdicts.{accepted}

-- ---- one byte

module _ (u : AnswerUnit) (byte : ℕ) where
  room-held : u.held < 32 → (append u byte).held ≡ u.held + 1
  unfolding append
  room-held r = rw (lt-ltb u.held 32 r)

  room-asked : length u.query ≡ 32 → u.held < 32 → asked (append u byte) ≡ asked u ++ (byte ∷ [])
  unfolding append
  room-asked long r =
      let inside : u.held < length u.query = omega (arith, long, r) in
      rw (lt-ltb u.held 32 r, add-one u.held) (take-suc-set u.query u.held byte inside)

  room-overrun : u.held < 32 → (append u byte).overrun ≡ u.overrun
  unfolding append
  room-overrun r = rw (lt-ltb u.held 32 r)

  full-overrun : 32 ≤ u.held → (append u byte).overrun ≡ true
  unfolding append
  full-overrun f = rw (le-ltb u.held 32 f)

  overrun-stays : u.overrun ≡ true → (append u byte).overrun ≡ true
  unfolding append
  overrun-stays e = go (ltb u.held 32)
    where
      go : (room : Bool)
          → (cond room (with_query u u.overrun (u.held + 1) (set u.query u.held byte)) (with_query u true u.held u.query)).overrun ≡ true
      go true = e
      go false = refl

  waiting_stays : (append u byte).waiting ≡ u.waiting
  unfolding append
  waiting_stays = go (ltb u.held 32)
    where
      go : (room : Bool)
          → (cond room (with_query u u.overrun (u.held + 1) (set u.query u.held byte)) (with_query u true u.held u.query)).waiting ≡ u.waiting
      go true = refl
      go false = refl

-- ---- all of them

pub record Wrote (store : List ℕ) (u : AnswerUnit) (bytes : List ℕ) (v : AnswerUnit) : Type 0 where
  pub keeps : Keeps u v
  pub done : access_verdict v 0 (length store) ≡ accepted
  pub waiting : v.waiting ≡ u.waiting
  pub stays : u.overrun ≡ true → v.overrun ≡ true
  pub query : u.held + length bytes ≤ 32 → asked v ≡ asked u ++ bytes
  pub clear : u.held + length bytes ≤ 32 → v.overrun ≡ u.overrun
  pub beyond : 32 < u.held + length bytes → v.overrun ≡ true

module _ (store : List ℕ) where
  one : (u : AnswerUnit) (byte : ℕ) → access_verdict u 0 (length store) ≡ accepted → (write_register u 2 byte store).unit ≡ append u byte
  unfolding after_write
  one u byte done = rw (write-by u 2 byte store accepted (sym (any-register u store done 2 (omega arith))))

  one-keeps : (u : AnswerUnit) (byte : ℕ) → Sound u → access_verdict u 0 (length store) ≡ accepted → Keeps u (append u byte)
  one-keeps u byte sound done = rw (one u byte done) at (access-keeps u (writing 2 byte store) sound)

  one-done : (u : AnswerUnit) (byte : ℕ) → Sound u → access_verdict u 0 (length store) ≡ accepted → access_verdict (append u byte) 0 (length store) ≡ accepted
  one-done u byte sound done = still-done u (append u byte) (length store) (one-keeps u byte sound done) done

  past : (byte : ℕ) (bytes : List ℕ) (u v : AnswerUnit) → Wrote store (append u byte) bytes v → (room : Bool) → ltb u.held 32 ≡ room
      → 32 < u.held + length (byte ∷ bytes) → v.overrun ≡ true
  past byte bytes u v w true e h =
      let r = ltb-true u.held 32 e in
      let held = room-held u byte r in
      let over : 32 < (append u byte).held + length bytes = omega (arith, h, held) in
      w.beyond over
  past byte bytes u v w false e h = w.stays (full-overrun u byte (ltb-false u.held 32 e))

  more : (byte : ℕ) (bytes : List ℕ) (u : AnswerUnit) → Sound u → access_verdict u 0 (length store) ≡ accepted → (v : AnswerUnit)
      → Wrote store (append u byte) bytes v → Wrote store u (byte ∷ bytes) v
  more byte bytes u sound done v w = record {
    keeps = chained u (append u byte) v (one-keeps u byte sound done) w.keeps;
    done = w.done;
    waiting = w.waiting ∙ waiting_stays u byte;
    stays = λ e. w.stays (overrun-stays u byte e);
    query = λ h.
        let r : u.held < 32 = omega (arith, h) in
        let held = room-held u byte r in
        let fits : (append u byte).held + length bytes ≤ 32 = omega (arith, h, held) in
        w.query fits ∙ ap (λ (l : List ℕ). l ++ bytes) (room-asked u byte sound.placed.query-places r) ∙ append_snoc (asked u) byte bytes;
    clear = λ h.
        let r : u.held < 32 = omega (arith, h) in
        let held = room-held u byte r in
        let fits : (append u byte).held + length bytes ≤ 32 = omega (arith, h, held) in
        w.clear fits ∙ room-overrun u byte r;
    beyond = λ h. past byte bytes u v w (ltb u.held 32) refl h;
  }

  none : (u : AnswerUnit) → Sound u → access_verdict u 0 (length store) ≡ accepted → Wrote store u [] u
  none u sound done = record {
    keeps = same u sound;
    done = done;
    waiting = refl;
    stays = λ e. e;
    query = λ h. sym (append-nil (asked u));
    clear = λ h. refl;
    beyond = λ h. absurd (let w : ⊥ = omega (arith, h, sound.held_fits) in w);
  }

  run_none : (u : AnswerUnit) → run u [] ≡ u
  unfolding run
  run_none u = refl

  run-byte : (u : AnswerUnit) (byte : ℕ) (rest : List Access) → access_verdict u 0 (length store) ≡ accepted
      → run u (writing 2 byte store ∷ rest) ≡ run (append u byte) rest
  unfolding run
  run-byte u byte rest done = ap (λ (v : AnswerUnit). run v rest) (one u byte done)

  pub written : (bytes : List ℕ) (u : AnswerUnit) → Sound u → access_verdict u 0 (length store) ≡ accepted
      → Wrote store u bytes (run u (writing_all bytes store))
  written [] u sound done = rw (run_none u) (none u sound done)
  written (byte ∷ bytes) u sound done =
      rw (run-byte u byte (writing_all bytes store) done)
      (more byte bytes u sound done (run (append u byte) (writing_all bytes store))
      (written bytes (append u byte) (one-keeps u byte sound done).sound (one-done u byte sound done)))
