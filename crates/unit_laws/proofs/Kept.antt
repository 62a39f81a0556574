-- Any run of accesses keeps what is held within bounds, and the set-up (`run-keeps`); so that after a set-up no access to a register is refused but
-- for its store: `never-refused`.
use mathlib.Core.Path.{◌≡◌, refl, sym, ◌∙◌}
use mathlib.Core.Bool.{Bool, true, false, cond, not, ◌&&◌}
use mathlib.Core.Logic.{⊎_elim}
use mathlib.Core.List.{List, [], ◌∷◌}
use Prim.Native.Nat.{ℕ, zero, suc, ◌+◌, ◌-◌, ◌≤◌}
use native.Mathlib.Omega.{arith}
use lib.Dec.{ltb, eqb}
use lib.ListN.{length, get_or, set, length-set}
use borrow.Author.Tests.{ltb-true}
use Rattle.lists.specs.Sums.{All, all_nil, all_cons}
use Rattle.std.specs.Prelude.{Ok, Err}
use Rattle.refusal.specs.Verdicts.{accepted, Verdict, Outcome}
use Rattle.refusal.specs.Numbers.{refusal_of}
use Rattle.calendar.specs.Calendar.{no_day}
use Rattle.catalogue.specs.declared.Catalogue.{Catalogue}
use Rattle.answer_unit.specs.declared.AnswerUnit.{AnswerUnit}
use Rattle.answer_unit.specs.Unit.{bit, fresh, waits, asked, with_line, with_query}
use Rattle.answer_unit.specs.Registers.{advance, after_read, append, acknowledge, answered_for, ended_by, answer_of, finished, start, control, after_write}
use Rattle.answer_unit.specs.Registers.{access_verdict, read_register, write_register}
use Rattle.answer_unit.proofs.Chains.{unit-takes, SetUp, set-up-passed, access-passed, access-accepted}
use Rattle.answer_unit.proofs.Steps.{set-up-by, read-by, write-by}
use Rattle.unit_laws.specs.Runs.{Access, reading, writing, after, run, Placed, Sound}
use Rattle.unit_laws.specs.Claims.{Keeps, RunKeeps, NeverRefused}
use Rattle.unit_laws.proofs.Answers.{Fits, outcome_fits, kept-length}

-- ---- what holds of a unit and of what each access can make of it

-- whichever register it is
pub whichever : (P : AnswerUnit → Type 0) (u : AnswerUnit) → P u → (units : List AnswerUnit) → All P units → (register : ℕ) → P (get_or units register u)
whichever P u p [] all_nil register = p
whichever P u p (v ∷ units) (all_cons q rest) zero = q
whichever P u p (v ∷ units) (all_cons q rest) (suc register) = whichever P u p units rest register

pub access-by : (P : AnswerUnit → Type 0) (u : AnswerUnit) → P u → ((register : ℕ) → P (after_read u register))
    → ((register value : ℕ) (store : List ℕ) → access_verdict u register (length store) ≡ accepted → P (after_write u register value store))
    → (access : Access) → P (after u access)
access-by P u p read write (reading register store) = go (access_verdict u register (length store)) refl
  where
    go : (v : Verdict) → v ≡ access_verdict u register (length store) → P (read_register u register store).unit
    go (Ok _) e = rw (read-by u register store accepted e) (read register)
    go (Err refusal) e = rw (read-by u register store (Err refusal) e) p
access-by P u p read write (writing register value store) = go (access_verdict u register (length store)) refl
  where
    go : (v : Verdict) → v ≡ access_verdict u register (length store) → P (write_register u register value store).unit
    go (Ok _) e = rw (write-by u register value store accepted e) (write register value store (sym e))
    go (Err refusal) e = rw (write-by u register value store (Err refusal) e) p

-- ---- what is kept, of the parts of a unit

kept : (u v : AnswerUnit) → length v.query ≡ 32 → length v.answer ≡ 64 → v.held ≤ 32 → v.waiting ≤ v.catalogue.symbol
    → v.catalogue ≡ u.catalogue → v.server ≡ u.server → Keeps u v
kept u v query answer held waiting catalogue server = record {
  sound = record { placed = record { query-places = query; answer-places = answer }; held_fits = held; waiting-fits = waiting };
  catalogue = catalogue;
  server = server;
}

-- the places for an answer have room for one
pub answer-room : (u : AnswerUnit) (stored : ℕ) → Placed u → access_verdict u 0 stored ≡ accepted → u.catalogue.symbol ≤ length u.answer
answer-room u stored placed done =
    let s = set-up-passed u.catalogue u.server (access-passed u 0 stored done).set-up in
    omega (arith, (unit-takes u.catalogue s.takes).small, placed.answer-places)

-- an access that was done finds the unit sound
pub sound-at : (u : AnswerUnit) (register stored : ℕ) → Placed u → access_verdict u register stored ≡ accepted → Sound u
sound-at u register stored placed done =
    let a = access-passed u register stored done in record { placed = placed; held_fits = a.held_fits; waiting-fits = a.waiting-fits }

-- nothing changed
pub same : (u : AnswerUnit) → Sound u → Keeps u u
same u sound = record { sound = sound; catalogue = refl; server = refl }

pub chained : (u v w : AnswerUnit) → Keeps u v → Keeps v w → Keeps u w
chained u v w k l = record { sound = l.sound; catalogue = l.catalogue ∙ k.catalogue; server = l.server ∙ k.server }

nought : (n : ℕ) → 0 ≤ n
nought n = omega arith

pub fresh_keeps : (u : AnswerUnit) → Keeps u (fresh u.catalogue u.server)
unfolding fresh
fresh_keeps u = kept u (fresh u.catalogue u.server) refl refl (nought 32) (nought u.catalogue.symbol) refl refl

-- ---- what each access does

module _ (u : AnswerUnit) (sound : Sound u) where
  query-long : length u.query ≡ 32
  query-long = sound.placed.query-places

  answer-long : length u.answer ≡ 64
  answer-long = sound.placed.answer-places

  pub lined : (enable flag : Bool) → Keeps u (with_line u enable flag)
  lined enable flag = kept u (with_line u enable flag) query-long answer-long sound.held_fits sound.waiting-fits refl refl

  pub advanced : Keeps u (advance u)
  advanced =
      let fewer : u.waiting - 1 ≤ u.catalogue.symbol = omega (arith, sound.waiting-fits) in
      kept u (advance u) query-long answer-long sound.held_fits fewer refl refl

  read_keeps : (register : ℕ) → Keeps u (after_read u register)
  unfolding after_read
  read_keeps register = go (eqb register 3)
    where
      go : (third : Bool) → Keeps u (cond third (advance u) u)
      go true = advanced
      go false = same u sound

  append-keeps : (value : ℕ) → Keeps u (append u value)
  unfolding append
  append-keeps value = go (ltb u.held 32) refl
    where
      go : (room : Bool) → ltb u.held 32 ≡ room
          → Keeps u (cond room (with_query u u.overrun (u.held + 1) (set u.query u.held value)) (with_query u true u.held u.query))
      go true e =
          let more : u.held + 1 ≤ 32 = omega (arith, ltb-true u.held 32 e) in
          kept u (with_query u u.overrun (u.held + 1) (set u.query u.held value)) (length-set u.query u.held value ∙ query-long) answer-long
          more sound.waiting-fits refl refl
      go false e = kept u (with_query u true u.held u.query) query-long answer-long sound.held_fits sound.waiting-fits refl refl

  acknowledge-keeps : (value : ℕ) → Keeps u (acknowledge u value)
  unfolding acknowledge
  acknowledge-keeps value = go (bit 1 value)
    where
      go : (clears : Bool) → Keeps u (cond clears (with_line u u.enable false) u)
      go true = lined u.enable false
      go false = same u sound

  -- a start that ended
  pub ended-keeps : (buffer : List ℕ) → length buffer ≡ 64 → (outcome : Outcome) → Fits u.catalogue.symbol outcome
      → Keeps u (finished (ended_by u outcome buffer))
  ended-keeps buffer places (Ok size) fits =
      let least : size ≤ u.catalogue.symbol =
      ⊎_elim (λ e. let w : size ≤ u.catalogue.symbol = omega (arith, e) in w) (λ e. let w : size ≤ u.catalogue.symbol = omega (arith, e) in w) fits in
      kept u (finished (ended_by u (Ok size) buffer)) query-long places (nought 32) least refl refl
  ended-keeps buffer places (Err refusal) fits =
      kept u (finished (ended_by u (Err refusal) buffer)) query-long places (nought 32) (nought u.catalogue.symbol) refl refl

  start-keeps : (store : List ℕ) → SetUp u.catalogue u.server → Keeps u (start u store)
  unfolding start answer_of
  start-keeps store s = go u.overrun
    where
      go : (over : Bool) → Keeps u (finished
          (cond over (ended_by u (Err (refusal_of 7)) u.answer) (ended_by u (answered_for u store).outcome (answered_for u store).buffer)))
      go true = ended-keeps u.answer answer-long (Err (refusal_of 7)) tt
      go false =
          ended-keeps (answered_for u store).buffer
          (kept-length u.catalogue s.takes s.admitted u.server store (asked u) no_day u.answer ∙ answer-long)
          (answered_for u store).outcome
          (outcome_fits u.catalogue s.takes s.admitted u.server store (asked u) no_day u.answer)

module _ (u : AnswerUnit) (sound : Sound u) (store : List ℕ) where
  control-keeps : (value : ℕ) → SetUp u.catalogue u.server → Keeps u (control u value store)
  unfolding control
  control-keeps value s = go (bit 128 value) (bit 1 value && not (waits u))
    where
      go : (reset begin : Bool) → Keeps u (cond reset (fresh u.catalogue u.server)
          (cond begin (start (with_line u (bit 2 value) u.flag) store) (with_line u (bit 2 value) u.flag)))
      go true begin = fresh_keeps u
      go false false = lined u sound (bit 2 value) u.flag
      go false true =
          let k = lined u sound (bit 2 value) u.flag in
          chained u (with_line u (bit 2 value) u.flag) (start (with_line u (bit 2 value) u.flag) store) k
          (start-keeps (with_line u (bit 2 value) u.flag) k.sound store s)

  write_keeps : (register value : ℕ) → SetUp u.catalogue u.server → Keeps u (after_write u register value store)
  unfolding after_write
  write_keeps register value s =
      whichever (Keeps u) u (same u sound) (control u value store ∷ u ∷ append u value ∷ u ∷ u ∷ acknowledge u value ∷ [])
      (all_cons (control-keeps value s)
      (all_cons (same u sound)
      (all_cons (append-keeps u sound value) (all_cons (same u sound) (all_cons (same u sound) (all_cons (acknowledge-keeps u sound value) all_nil))))))
      register

-- ---- an access, and any run of them

pub access-keeps : (u : AnswerUnit) (access : Access) → Sound u → Keeps u (after u access)
access-keeps u access sound =
    access-by (Keeps u) u (same u sound) (read_keeps u sound)
    (λ register value store done.
    let s = set-up-passed u.catalogue u.server (access-passed u register (length store) done).set-up in
    write_keeps u sound store register value s)
    access

pub run-keeps : RunKeeps
unfolding run
run-keeps u [] sound = same u sound
run-keeps u (access ∷ accesses) sound =
    let k = access-keeps u access sound in
    chained u (after u access) (run (after u access) accesses) k (run-keeps (after u access) accesses k.sound)

-- accessible where the set-up is the same
pub still-done : (u v : AnswerUnit) (stored : ℕ) → Keeps u v → access_verdict u 0 stored ≡ accepted → access_verdict v 0 stored ≡ accepted
still-done u v stored k done =
    let a = access-passed u 0 stored done in
    access-accepted v 0 stored (record {
      known = a.known;
      set-up = rw (k.catalogue, k.server) a.set-up;
      store_long = rw k.catalogue a.store_long;
      held_fits = k.sound.held_fits;
      waiting-fits = k.sound.waiting-fits;
    })

pub fresh-sound : (c : Catalogue) (server : ℕ) → Sound (fresh c server)
unfolding fresh
fresh-sound c server = (fresh_keeps (fresh c server)).sound

pub never-refused : NeverRefused
unfolding fresh
never-refused c server accesses register store admitted known long =
    let k = run-keeps (fresh c server) accesses (fresh-sound c server) in
    let u = run (fresh c server) accesses in
    rw (set-up-by c server accepted (sym admitted))
    (access-accepted u register (length store) (record {
      known = known;
      set-up = rw (k.catalogue, k.server) admitted;
      store_long = long ∙ rw k.catalogue;
      held_fits = k.sound.held_fits;
      waiting-fits = k.sound.waiting-fits;
    }))
