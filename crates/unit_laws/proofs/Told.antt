-- A start is answered, or refused 7 (`only-seven`), so that the refused bit and register 4 agree after any run of accesses: `always-told`.
use mathlib.Core.Path.{◌≡◌, refl, sym}
use mathlib.Core.Bool.{Bool, true, false, cond, not, ◌&&◌}
use mathlib.Core.Logic.{inl, inr}
use mathlib.Core.List.{List, [], ◌∷◌}
use Prim.Native.Nat.{ℕ, ◌+◌, ◌≤◌}
use native.Mathlib.Omega.{arith}
use lib.Dec.{ltb, eqb}
use lib.ListN.{length, set}
use Rattle.lists.specs.Sums.{all_nil, all_cons}
use Rattle.std.specs.Prelude.{Ok, Err}
use Rattle.refusal.specs.Verdicts.{accepted}
use Rattle.refusal.specs.Chain.{refused}
use Rattle.refusal.specs.Numbers.{refusal_of}
use Rattle.calendar.specs.Calendar.{no_day}
use Rattle.codes.specs.Codes.{scheme_of}
use Rattle.server.proofs.Laws.{answer-by, answer-accepted}
use Rattle.server.proofs.Refusals.{query-refused}
use Rattle.answer_unit.specs.declared.AnswerUnit.{AnswerUnit}
use Rattle.answer_unit.specs.Unit.{bit, fresh, waits, asked, with_line, with_query}
use Rattle.answer_unit.specs.Registers.{advance, after_read, append, acknowledge, answered_for, ended_by, answer_of, finished, start, control, after_write}
use Rattle.answer_unit.specs.Registers.{access_verdict}
use Rattle.answer_unit.proofs.Chains.{SetUp, set-up-passed, access-passed}
use Rattle.answer_unit.proofs.Steps.{set-up-by}
use Rattle.unit_laws.specs.Runs.{Access, after, run, Placed, Sound}
use Rattle.unit_laws.specs.Numbers.{Told, OnlySeven, AlwaysTold}
use Rattle.unit_laws.proofs.Seen.{first-register}
use Rattle.unit_laws.proofs.Answers.{length-small, undated-served}
use Rattle.unit_laws.proofs.Kept.{whichever, access-by, answer-room, sound-at, lined, access-keeps, still-done, fresh-sound}
use Rattle.unit_laws.proofs.Starts.{start-after}

-- ---- a start

module _ (u : AnswerUnit) (store : List ℕ) (placed : Placed u) (done : access_verdict u 0 (length store) ≡ accepted) where
  is-set-up : SetUp u.catalogue u.server
  is-set-up = set-up-passed u.catalogue u.server (access-passed u 0 (length store) done).set-up

  answered-value : (scheme_of u.catalogue).admits u.server (asked u) ≡ true
      → (answered_for u store).outcome ≡ Ok ((scheme_of u.catalogue).answer_length (asked u))
  answered-value admits =
      let s = is-set-up in
      let small = length-small u.catalogue s.takes (asked u) in
      let room = answer-room u (length store) placed done in
      let agrees = answer-accepted scheme_of u.catalogue no_day u.server (length store) (asked u) (length u.answer) (record {
        admitted = s.admitted;
        served = undated-served u.catalogue s.takes no_day;
        below = s.below;
        admits = admits;
        store_long = (access-passed u 0 (length store) done).store_long;
        roomy = let w : (scheme_of u.catalogue).answer_length (asked u) ≤ length u.answer = omega (arith, small, room) in w;
      }) in
      rw (answer-by scheme_of u.catalogue no_day u.server store (asked u) u.answer accepted (sym agrees))

  answered-seven : (scheme_of u.catalogue).admits u.server (asked u) ≡ false → (answered_for u store).outcome ≡ Err (refusal_of 7)
  answered-seven refuses =
      let s = is-set-up in
      let seven = query-refused scheme_of u.catalogue no_day u.server (length store) (asked u) (length u.answer) s.admitted
      (undated-served u.catalogue s.takes no_day) s.below refuses in
      rw (answer-by scheme_of u.catalogue no_day u.server store (asked u) u.answer (refused 7) seven)

  start-told : Told (start u store)
  unfolding start answer_of
  start-told = go u.overrun ((scheme_of u.catalogue).admits u.server (asked u)) refl
    where
      go : (over good : Bool) → (scheme_of u.catalogue).admits u.server (asked u) ≡ good
          → Told (finished
          (cond over (ended_by u (Err (refusal_of 7)) u.answer) (ended_by u (answered_for u store).outcome (answered_for u store).buffer)))
      go true good e = inr (refl, refl)
      go false true e = rw (answered-value e) (inl (refl, refl))
      go false false e = rw (answered-seven e) (inr (refl, refl))

-- with bit 1 stored before it
lit-told : (u : AnswerUnit) (store : List ℕ) (enable flag : Bool) → Placed u → access_verdict u 0 (length store) ≡ accepted
    → Told (start (with_line u enable flag) store)
lit-told u store enable flag placed done =
    let k = lined u (sound-at u 0 (length store) placed done) enable flag in
    start-told (with_line u enable flag) store k.sound.placed (still-done u (with_line u enable flag) (length store) k done)

pub only-seven : OnlySeven
only-seven u value store placed starts = rw (start-after u value store starts) (lit-told u store (bit 2 value) u.flag placed starts.done)

-- ---- any access, and any run of them

module _ (u : AnswerUnit) (told : Told u) where
  read_told : (register : ℕ) → Told (after_read u register)
  unfolding after_read
  read_told register = go (eqb register 3)
    where
      go : (third : Bool) → Told (cond third (advance u) u)
      go true = told
      go false = told

  append-told : (value : ℕ) → Told (append u value)
  unfolding append
  append-told value = go (ltb u.held 32)
    where
      go : (room : Bool)
          → Told (cond room (with_query u u.overrun (u.held + 1) (set u.query u.held value)) (with_query u true u.held u.query))
      go true = told
      go false = told

  acknowledge-told : (value : ℕ) → Told (acknowledge u value)
  unfolding acknowledge
  acknowledge-told value = go (bit 1 value)
    where
      go : (clears : Bool) → Told (cond clears (with_line u u.enable false) u)
      go true = told
      go false = told

  control-told : (value : ℕ) (store : List ℕ) → Placed u → access_verdict u 0 (length store) ≡ accepted → Told (control u value store)
  unfolding control fresh
  control-told value store placed done = go (bit 128 value) (bit 1 value && not (waits u))
    where
      go : (reset begin : Bool) → Told (cond reset (fresh u.catalogue u.server)
          (cond begin (start (with_line u (bit 2 value) u.flag) store) (with_line u (bit 2 value) u.flag)))
      go true begin = inl (refl, refl)
      go false true = lit-told u store (bit 2 value) u.flag placed done
      go false false = told

  write-told : Placed u → (register value : ℕ) (store : List ℕ) → access_verdict u register (length store) ≡ accepted
      → Told (after_write u register value store)
  unfolding after_write
  write-told placed register value store done =
      whichever Told u told (control u value store ∷ u ∷ append u value ∷ u ∷ u ∷ acknowledge u value ∷ [])
      (all_cons (control-told value store placed (first-register u register (length store) done))
      (all_cons told (all_cons (append-told value) (all_cons told (all_cons told (all_cons (acknowledge-told value) all_nil))))))
      register

run-told : (u : AnswerUnit) (accesses : List Access) → Sound u → Told u → Told (run u accesses)
unfolding run
run-told u [] sound told = told
run-told u (access ∷ accesses) sound told =
    run-told (after u access) accesses (access-keeps u access sound).sound
    (access-by Told u told (read_told u told) (write-told u told sound.placed) access)

pub always-told : AlwaysTold
unfolding fresh
always-told c server accesses admitted =
    rw (set-up-by c server accepted (sym admitted)) (run-told (fresh c server) accesses (fresh-sound c server) (inl (refl, refl)))
