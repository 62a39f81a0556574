-- A start that is not ignored and has no overrun shows what answering gives (`start-answers`), with an overrun 7 (`overrun-is-seven`), and empties
-- the query (`start-empties`); while an answer waits it does nothing (`start-ignored`), but that
-- bit 1 is stored (`enable-stored`). Reset gives a set-up's unit (`reset-is-set-up`).
use mathlib.Core.Path.{◌≡◌, refl, sym, ◌∙◌}
use mathlib.Core.Bool.{Bool, true, false, cond, not, ◌&&◌}
use mathlib.Core.Logic.{◌⊎◌, ⊎_elim}
use mathlib.Core.List.{List}
use Prim.Native.Nat.{ℕ, ◌-◌, ◌≤◌}
use native.Mathlib.Omega.{arith}
use lib.ListN.{length, take}
use borrow.Author.Tests.{lt-ltb, le-ltb}
use Rattle.lists.specs.Parts.{cut}
use Rattle.std.specs.Prelude.{Ok, Err}
use Rattle.refusal.specs.Verdicts.{accepted, Outcome}
use Rattle.refusal.specs.Numbers.{refusal_of}
use Rattle.calendar.specs.Calendar.{no_day}
use Rattle.codes.specs.Codes.{scheme_of}
use Rattle.server.specs.Answering.{Answered, answering}
use Rattle.answer_unit.specs.declared.AnswerUnit.{AnswerUnit}
use Rattle.answer_unit.specs.Unit.{bit, with_line, waits, asked}
use Rattle.answer_unit.specs.Registers.{access_verdict, ended_by, answered_for, answer_of, finished, start, control, after_write, write_register}
use Rattle.answer_unit.proofs.Chains.{set-up-passed, access-passed}
use Rattle.answer_unit.proofs.Steps.{write-by, set-up-by}
use Rattle.unit_laws.specs.Runs.{Sound}
use Rattle.unit_laws.specs.Claims.{Starts, Shows, Keeps, StartAnswers, OverrunIsSeven, StartEmpties, EnableStored, StartIgnored, ResetIsSetUp}
use Rattle.unit_laws.proofs.Seen.{number_read, refused-bit, overrun-bit, flag-read}
use Rattle.unit_laws.proofs.Kept.{answer-room, sound-at, lined, ended-keeps, still-done}
use Rattle.unit_laws.proofs.ReadOut.{read_out_lem}
use Rattle.unit_laws.proofs.Answers.{Fits, Same, outcome_fits, kept-length, same_answer}

-- what a start does
pub start-after : (u : AnswerUnit) (value : ℕ) (store : List ℕ) → Starts u value store
    → (write_register u 0 value store).unit ≡ start (with_line u (bit 2 value) u.flag) store
unfolding after_write control
start-after u value store s =
    let few : u.waiting ≤ 0 = omega (arith, s.none-waits) in
    rw (write-by u 0 value store accepted (sym s.done), s.no-reset, s.start-bit, le-ltb 0 u.waiting few)

start-ended : (u : AnswerUnit) (store : List ℕ) → u.overrun ≡ false
    → start u store ≡ finished (ended_by u (answered_for u store).outcome (answered_for u store).buffer)
unfolding start answer_of
start-ended u store e = rw e

-- ---- a unit whose start ended

module _ (u : AnswerUnit) (store : List ℕ) (sound : Sound u) (done : access_verdict u 0 (length store) ≡ accepted) (buffer : List ℕ) (long : length buffer ≡ 64)
  where
    after-keeps : (outcome : Outcome) → Fits u.catalogue.symbol outcome → Keeps u (finished (ended_by u outcome buffer))
    after-keeps outcome fits = ended-keeps u sound buffer long outcome fits

    accessible : (outcome : Outcome) → Fits u.catalogue.symbol outcome → access_verdict (finished (ended_by u outcome buffer)) 0 (length store) ≡ accepted
    accessible outcome fits = still-done u (finished (ended_by u outcome buffer)) (length store) (after-keeps outcome fits) done

    -- the whole answer, or none of it, is the first `size` bytes
    whole : (S size : ℕ) → (size ≡ 0) ⊎ (size ≡ S) → cut (S - size) size buffer ≡ take size buffer
    whole S size = ⊎_elim (λ e. rw e) (λ e. let none : S - S ≡ 0 = omega arith in rw (e, none))

    shows-ended : (outcome : Outcome) → Fits u.catalogue.symbol outcome
        → Shows (finished (ended_by u outcome buffer)) store (record { outcome = outcome; buffer = buffer })
    shows-ended (Ok size) fits =
        let after = finished (ended_by u (Ok size) buffer) in
        let ok = accessible (Ok size) fits in
        let kept = (after-keeps (Ok size) fits).sound in
        let S = u.catalogue.symbol in
        record {
          number = number_read after store ok;
          refused = refused-bit after store ok;
          flag = flag-read after store ok;
          no-overrun = overrun-bit after store ok;
          answer = λ most high.
              let few : size ≤ most = omega (arith, kept.waiting-fits, high) in read_out_lem most size after store kept ok refl few ∙ whole S size fits;
        }
    shows-ended (Err refusal) fits =
        let after = finished (ended_by u (Err refusal) buffer) in
        let ok = accessible (Err refusal) fits in
        record {
          number = number_read after store ok;
          refused = refused-bit after store ok;
          flag = flag-read after store ok;
          no-overrun = overrun-bit after store ok;
          answer = λ most high. read_out_lem most 0 after store (after-keeps (Err refusal) fits).sound ok refl (let w : 0 ≤ most = omega arith in w);
        }

-- what is shown goes by the outcome and the bytes written
pub shows_same : (u : AnswerUnit) (store : List ℕ) (a b : Answered) → Same a b → Shows u store a → Shows u store b
shows_same u store a b same shows = record {
  number = shows.number ∙ rw same.outcome;
  refused = shows.refused ∙ rw same.outcome;
  flag = shows.flag;
  no-overrun = shows.no-overrun;
  answer = λ most high. shows.answer most high ∙ same.written;
}

pub start-answers : StartAnswers
start-answers u value store day buffer placed starts overrun room =
    let lit = with_line u (bit 2 value) u.flag in
    let k = lined u (sound-at u 0 (length store) placed starts.done) (bit 2 value) u.flag in
    let s = set-up-passed u.catalogue u.server (access-passed u 0 (length store) starts.done).set-up in
    let query = asked u in
    let given = answering scheme_of u.catalogue no_day u.server store query u.answer in
    let own = answer-room u (length store) placed starts.done in
    let kept = kept-length u.catalogue s.takes s.admitted u.server store query no_day u.answer in
    let fits = outcome_fits u.catalogue s.takes s.admitted u.server store query no_day u.answer in
    rw (start-after u value store starts ∙ start-ended lit store overrun)
    (shows_same (finished (ended_by lit given.outcome given.buffer)) store given (answering scheme_of u.catalogue day u.server store query buffer)
    (same_answer u.catalogue s.takes s.admitted u.server store query no_day day u.answer buffer own room)
    (shows-ended lit store k.sound (still-done u lit (length store) k starts.done) given.buffer (kept ∙ placed.answer-places) given.outcome fits))

abbrev refused_with : List ℕ → Answered
refused_with buffer = record { outcome = Err (refusal_of 7); buffer = buffer }

start-over : (u : AnswerUnit) (store : List ℕ) → u.overrun ≡ true → start u store ≡ finished (ended_by u (Err (refusal_of 7)) u.answer)
unfolding start answer_of
start-over u store e = rw e

pub overrun-is-seven : OverrunIsSeven
overrun-is-seven u value store buffer placed starts overrun =
    let lit = with_line u (bit 2 value) u.flag in
    let k = lined u (sound-at u 0 (length store) placed starts.done) (bit 2 value) u.flag in
    rw (start-after u value store starts ∙ start-over lit store overrun)
    (shows_same (finished (ended_by lit (Err (refusal_of 7)) u.answer)) store (refused_with u.answer) (refused_with buffer)
    (record { outcome = refl; written = refl })
    (shows-ended lit store k.sound (still-done u lit (length store) k starts.done) u.answer placed.answer-places (Err (refusal_of 7)) tt))

pub start-empties : StartEmpties
unfolding start
start-empties u value store starts = rw (start-after u value store starts) (refl, refl)

-- a start leaves the enable bit
start-enable : (u : AnswerUnit) (store : List ℕ) → (start u store).enable ≡ u.enable
unfolding start answer_of
start-enable u store = go u.overrun (answered_for u store).outcome
  where
    go : (over : Bool) (outcome : Outcome)
        → (finished (cond over (ended_by u (Err (refusal_of 7)) u.answer) (ended_by u outcome (answered_for u store).buffer))).enable ≡ u.enable
    go true outcome = refl
    go false (Ok size) = refl
    go false (Err refusal) = refl

pub enable-stored : EnableStored
unfolding after_write control
enable-stored u value store done no-reset =
    rw (write-by u 0 value store accepted (sym done), no-reset) (go (bit 1 value && not (waits u)))
  where
    go : (begin : Bool)
        → (cond begin (start (with_line u (bit 2 value) u.flag) store) (with_line u (bit 2 value) u.flag)).enable ≡ bit 2 value
    go true = start-enable (with_line u (bit 2 value) u.flag) store
    go false = refl

pub start-ignored : StartIgnored
unfolding after_write control
start-ignored u value store done no-reset waits =
    rw (write-by u 0 value store accepted (sym done), no-reset, lt-ltb 0 u.waiting waits) (go (bit 1 value))
  where
    go : (begin : Bool) → cond (begin && false) (start (with_line u (bit 2 value) u.flag) store) (with_line u (bit 2 value) u.flag)
        ≡ with_line u (bit 2 value) u.flag
    go true = refl
    go false = refl

pub reset-is-set-up : ResetIsSetUp
unfolding after_write control
reset-is-set-up u value store done reset =
    let a = access-passed u 0 (length store) done in
    rw (write-by u 0 value store accepted (sym done), set-up-by u.catalogue u.server accepted (sym a.set-up), reset)
