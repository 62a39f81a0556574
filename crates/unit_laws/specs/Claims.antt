-- What is claimed of the answer unit (document 02, item 12); proofs/ has the proofs.
use Rattle.std.specs.Prelude.{Bool, true, false, ◌&&◌, List, map, ◌≡◌, ℕ, ◌≤◌, ◌<◌, length, Ok, Err}
use Rattle.refusal.specs.Verdicts.{accepted, Outcome}
use Rattle.refusal.specs.Numbers.{number_of, refusal_of}
use Rattle.calendar.specs.declared.Day.{Day}
use Rattle.catalogue.specs.declared.Catalogue.{Catalogue}
use Rattle.codes.specs.Codes.{scheme_of}
use Rattle.server.specs.Answering.{Answered, written_by, answering}
use Rattle.answer_unit.specs.declared.AnswerUnit.{AnswerUnit}
use Rattle.answer_unit.specs.Unit.{bit, with_line, asked}
use Rattle.answer_unit.specs.Registers.{set_up_verdict, set_up, access_verdict, read_register, write_register, line}
use Rattle.unit_laws.specs.Runs.{Access, run, read_out, Reply, asking, replies, Placed, Sound, Idle}

-- what register 4 and the refused bit say of an outcome
abbrev pub refusal_number : Outcome → ℕ
refusal_number (Ok size) = 0
refusal_number (Err refusal) = number_of refusal

abbrev pub is_refused : Outcome → Bool
is_refused (Ok size) = false
is_refused (Err refusal) = true

-- a write of register 0 starts: no reset, the start bit, and no answer waits
pub record Starts (u : AnswerUnit) (value : ℕ) (store : List ℕ) : Type 0 where
  pub done : access_verdict u 0 (length store) ≡ accepted
  pub no-reset : bit 128 value ≡ false
  pub start-bit : bit 1 value ≡ true
  pub none-waits : u.waiting ≡ 0

-- the unit shows what answering gave: its refusal, the flag, and byte by byte the answer; then nothing waits
pub record Shows (u : AnswerUnit) (store : List ℕ) (answered : Answered) : Type 0 where
  pub number : (read_register u 4 store).byte ≡ refusal_number answered.outcome
  pub refused : bit 2 (read_register u 1 store).byte ≡ is_refused answered.outcome
  pub flag : (read_register u 5 store).byte ≡ 1
  pub no-overrun : bit 4 (read_register u 1 store).byte ≡ false
  pub answer : (most : ℕ) → u.catalogue.symbol ≤ most → read_out most u store ≡ written_by answered.outcome answered.buffer

-- A start that is not ignored and has no overrun gives byte for byte what the answering end gives for that query, refusals included: on any day, and
-- into any buffer that has room for an answer
abbrev pub StartAnswers : Type 0
StartAnswers = (u : AnswerUnit) (value : ℕ) (store : List ℕ) (day : Day) (buffer : List ℕ) → Placed u → Starts u value store → u.overrun ≡ false
    → u.catalogue.symbol ≤ length buffer
    → Shows (write_register u 0 value store).unit store (answering scheme_of u.catalogue day u.server store (asked u) buffer)

-- A start with an overrun is refusal 7
abbrev pub OverrunIsSeven : Type 0
OverrunIsSeven = (u : AnswerUnit) (value : ℕ) (store buffer : List ℕ) → Placed u → Starts u value store → u.overrun ≡ true
    → Shows (write_register u 0 value store).unit store (record { outcome = Err (refusal_of 7); buffer = buffer })

-- Of any query whatever, written to register 2 byte by byte and then started, the unit shows what the answering end gives for it: past 32 bytes too
abbrev pub QueryAnswered : Type 0
QueryAnswered = (u : AnswerUnit) (query store : List ℕ) (value : ℕ) (day : Day) (buffer : List ℕ) → Placed u → Idle u
    → access_verdict u 0 (length store) ≡ accepted → bit 128 value ≡ false → bit 1 value ≡ true → u.catalogue.symbol ≤ length buffer
    → Shows (run u (asking query value store)) store (answering scheme_of u.catalogue day u.server store query buffer)

-- So a unit that is set up answers queries one after another, however many, as the answering end does: numbers and bytes
abbrev pub reply_by : Answered → Reply
reply_by answered = record { number = refusal_number answered.outcome; bytes = written_by answered.outcome answered.buffer }

abbrev pub QueriesAnswered : Type 0
QueriesAnswered = (c : Catalogue) (server : ℕ) (queries : List (List ℕ)) (store : List ℕ) (value : ℕ) (day : Day) (buffer : List ℕ)
    → set_up_verdict c server ≡ accepted → length store ≡ (scheme_of c).sizes.store → bit 128 value ≡ false → bit 1 value ≡ true
    → c.symbol ≤ length buffer → replies (set_up c server).unit value queries store
    ≡ map (λ query. reply_by (answering scheme_of c day server store query buffer)) queries

-- A start that is not ignored leaves no query and no overrun behind, so that once its answer is read out the unit is idle
abbrev pub StartEmpties : Type 0
StartEmpties = (u : AnswerUnit) (value : ℕ) (store : List ℕ) → Starts u value store
    → let after = (write_register u 0 value store).unit in
    (after.held ≡ 0) × (after.overrun ≡ false)

-- Start while an answer waits does nothing; bit 1 is stored all the same
abbrev pub StartIgnored : Type 0
StartIgnored = (u : AnswerUnit) (value : ℕ) (store : List ℕ) → access_verdict u 0 (length store) ≡ accepted → bit 128 value ≡ false
    → 0 < u.waiting → (write_register u 0 value store).unit ≡ with_line u (bit 2 value) u.flag

-- Whether or not it starts, a write without reset stores bit 1
abbrev pub EnableStored : Type 0
EnableStored = (u : AnswerUnit) (value : ℕ) (store : List ℕ) → access_verdict u 0 (length store) ≡ accepted → bit 128 value ≡ false
    → (write_register u 0 value store).unit.enable ≡ bit 2 value

-- Reset gives what a set-up with the same catalogue and server gives
abbrev pub ResetIsSetUp : Type 0
ResetIsSetUp = (u : AnswerUnit) (value : ℕ) (store : List ℕ) → access_verdict u 0 (length store) ≡ accepted → bit 128 value ≡ true
    → write_register u 0 value store ≡ set_up u.catalogue u.server

-- Any run of accesses keeps what is held within bounds, and keeps the set-up
pub record Keeps (u after : AnswerUnit) : Type 0 where
  pub sound : Sound after
  pub catalogue : after.catalogue ≡ u.catalogue
  pub server : after.server ≡ u.server

abbrev pub RunKeeps : Type 0
RunKeeps = (u : AnswerUnit) (accesses : List Access) → Sound u → Keeps u (run u accesses)

-- So after a set-up that is done and any run of accesses, an access to one of the registers with a store of the right length is never refused
abbrev pub NeverRefused : Type 0
NeverRefused = (c : Catalogue) (server : ℕ) (accesses : List Access) (register : ℕ) (store : List ℕ) → set_up_verdict c server ≡ accepted
    → register ≤ 5 → length store ≡ (scheme_of c).sizes.store → access_verdict (run (set_up c server).unit accesses) register (length store) ≡ accepted

-- The line is the flag that register 5 shows and the enable bit that register 0 shows
abbrev pub LineSeen : Type 0
LineSeen = (u : AnswerUnit) (store : List ℕ) → access_verdict u 0 (length store) ≡ accepted
    → line u ≡ (bit 1 (read_register u 5 store).byte && bit 2 (read_register u 0 store).byte)
