-- The rules of the answer unit (document 02, item 12), in the item's order: what each register shows, what reading and writing it does, the line, start
-- and reset; then the set-up, what refuses an access, and the accesses as a whole. All of it is total: over every unit, register, byte and store.
use Rattle.std.specs.Prelude.{Bool, true, false, cond, not, ◌&&◌, List, [], ◌∷◌, ◌++◌, ℕ, ◌+◌, ◌-◌, leb, ltb, eqb, length, get_or, set, Ok, Err}
use Rattle.refusal.specs.Verdicts.{accepted, Verdict, Outcome}
use Rattle.refusal.specs.Numbers.{number_of, refusal_of}
use Rattle.refusal.specs.Foremost.{Fault, fault, foremost}
use Rattle.calendar.specs.Calendar.{no_day, undated}
use Rattle.symbol.specs.declared.Operation.{Operation}
use Rattle.symbol.specs.declared.Operation.TheVariants.{ExclusiveOr, Addition}
use Rattle.catalogue.specs.declared.Code.{Code}
use Rattle.catalogue.specs.declared.Code.TheVariants.{Short, Even, Turn, Round}
use Rattle.catalogue.specs.declared.Catalogue.{Catalogue}
use Rattle.catalogue.specs.Catalogue.{in_bounds}
use Rattle.codes.specs.Codes.{scheme_of}
use Rattle.server.specs.Answering.{Answered, answering}
use Rattle.answer_unit.specs.declared.AnswerUnit.{AnswerUnit}
use Rattle.answer_unit.specs.declared.Handed.{Handed}
use Rattle.answer_unit.specs.declared.Got.{Got}
use Rattle.answer_unit.specs.Unit.{bit, weigh, fresh, zero_unit, waits, asked, with_line, with_query, with_answer}

-- ---- what the registers show

-- register 1, status: bit 0 answer waiting, bit 1 refused, bit 2 query overrun
abbrev pub status_of : AnswerUnit → ℕ
status_of u = weigh (waits u) 1 + weigh u.refused 2 + weigh u.overrun 4

-- register 3: the next byte of the answer, or 0 if none waits
abbrev pub next_byte : AnswerUnit → ℕ
next_byte u = cond (waits u) (get_or u.answer (u.catalogue.symbol - u.waiting) 0) 0

-- registers 0 to 5. Of register 0 only bit 1 reads back, register 2 reads 0, register 4 is the last start's refusal, and all bits not named are 0
unfoldable pub shown : AnswerUnit → ℕ → ℕ
shown u register =
    get_or (weigh u.enable 2 ∷ status_of u ∷ 0 ∷ next_byte u ∷ u.refusal ∷ weigh u.flag 1 ∷ []) register 0

-- ---- reading: register 3 goes on to the next byte, the others change nothing

abbrev pub advance : AnswerUnit → AnswerUnit
advance u = with_answer u u.refused u.refusal (u.waiting - 1) u.answer

unfoldable pub after_read : AnswerUnit → ℕ → AnswerUnit
after_read u register = cond (eqb register 3) (advance u) u

-- ---- writing register 2: a byte of the query; a 33rd sets the overrun bit and is dropped

unfoldable pub append : AnswerUnit → ℕ → AnswerUnit
append u value =
    cond (ltb u.held 32) (with_query u u.overrun (u.held + 1) (set u.query u.held value)) (with_query u true u.held u.query)

-- ---- writing register 5: 1 in bit 0 clears the flag

unfoldable pub acknowledge : AnswerUnit → ℕ → AnswerUnit
acknowledge u value = cond (bit 1 value) (with_line u u.enable false) u

-- ---- the line is flag and enable

abbrev pub line : AnswerUnit → Bool
line u = u.flag && u.enable

-- ---- start

-- what the answering end gives for the bytes so far. The catalogue has no dates, so that no day is looked at
abbrev pub answered_for : AnswerUnit → List ℕ → Answered
answered_for u store = answering scheme_of u.catalogue no_day u.server store (asked u) u.answer

-- refused bit and register 4 by what came out, and an answer waits, unless it is empty
abbrev pub ended_by : AnswerUnit → Outcome → List ℕ → AnswerUnit
ended_by u (Ok size) answer = with_answer u false 0 size answer
ended_by u (Err refusal) answer = with_answer u true (number_of refusal) 0 answer

-- overrun counts as 7
unfoldable pub answer_of : AnswerUnit → List ℕ → AnswerUnit
answer_of u store =
    cond u.overrun (ended_by u (Err (refusal_of 7)) u.answer) (ended_by u (answered_for u store).outcome (answered_for u store).buffer)

-- then the query and the overrun bit are emptied, and the flag is set
abbrev pub finished : AnswerUnit → AnswerUnit
finished u = with_line (with_query u false 0 u.query) u.enable true

unfoldable pub start : AnswerUnit → List ℕ → AnswerUnit
start u store = finished (answer_of u store)

-- ---- writing register 0: reset (bit 7) wins over the other bits; bit 1 is stored; start (bit 0) while an answer waits does nothing

unfoldable pub control : AnswerUnit → ℕ → List ℕ → AnswerUnit
control u value store =
    cond (bit 128 value) (fresh u.catalogue u.server)
    (cond (bit 1 value && not (waits u)) (start (with_line u (bit 2 value) u.flag) store) (with_line u (bit 2 value) u.flag))

-- ---- writing registers 0 to 5, of which 1, 3 and 4 ignore it

unfoldable pub after_write : AnswerUnit → ℕ → ℕ → List ℕ → AnswerUnit
after_write u register value store = get_or (control u value store ∷ u ∷ append u value ∷ u ∷ u ∷ acknowledge u value ∷ []) register u

-- ---- set-up: a short catalogue with S up to 64 under exclusive or, without dates; any other is 2. Then 17 and 3

abbrev pub is_short : Code → Bool
is_short Short = true
is_short Even = false
is_short Turn = false
is_short Round = false

abbrev pub is_exclusive : Operation → Bool
is_exclusive ExclusiveOr = true
is_exclusive Addition = false

unfoldable pub unit_takes : Catalogue → Bool
unit_takes c = is_short c.code && (is_exclusive c.sum && (undated c.opening c.closing && leb c.symbol 64))

abbrev pub set_up_faults : Catalogue → ℕ → List Fault
set_up_faults c server = fault 2 (not (unit_takes c && in_bounds c)) ∷ fault 17 (eqb c.messages 1) ∷ fault 3 (leb c.servers server) ∷ []

unfoldable pub set_up_verdict : Catalogue → ℕ → Verdict
set_up_verdict c server = foremost (set_up_faults c server)

abbrev pub set_up_by : Catalogue → ℕ → Verdict → Handed
set_up_by c server (Ok _) = record { verdict = accepted; unit = fresh c server }
set_up_by c server (Err refusal) = record { verdict = Err refusal; unit = zero_unit }

-- set_up catalogue server: refused, it hands back zeros
unfoldable pub set_up : Catalogue → ℕ → Handed
set_up c server = set_up_by c server (set_up_verdict c server)

-- ---- what refuses an access: 18 before anything else, then the set-up's faults, a wrong store (8), over 32 query or S answer bytes held (11)

abbrev pub held_faults : AnswerUnit → ℕ → List Fault
held_faults u stored =
    fault 8 (not (eqb stored (scheme_of u.catalogue).sizes.store))
    ∷ fault 11 (ltb 32 u.held)
    ∷ fault 11 (ltb u.catalogue.symbol u.waiting)
    ∷ []

-- access_faults unit register stored: from the length of the store
abbrev pub access_faults : AnswerUnit → ℕ → ℕ → List Fault
access_faults u register stored = fault 18 (ltb 5 register) ∷ (set_up_faults u.catalogue u.server ++ held_faults u stored)

unfoldable pub access_verdict : AnswerUnit → ℕ → ℕ → Verdict
access_verdict u register stored = foremost (access_faults u register stored)

-- ---- the accesses: a refused one leaves the unit as it was, and a refused read gives 0

abbrev pub read_by : AnswerUnit → ℕ → Verdict → Got
read_by u register (Ok _) = record { verdict = accepted; byte = shown u register; unit = after_read u register }
read_by u register (Err refusal) = record { verdict = Err refusal; byte = 0; unit = u }

-- read_register unit register store
unfoldable pub read_register : AnswerUnit → ℕ → List ℕ → Got
read_register u register store = read_by u register (access_verdict u register (length store))

abbrev pub write_by : AnswerUnit → ℕ → ℕ → List ℕ → Verdict → Handed
write_by u register value store (Ok _) = record { verdict = accepted; unit = after_write u register value store }
write_by u register value store (Err refusal) = record { verdict = Err refusal; unit = u }

-- write_register unit register value store
unfoldable pub write_register : AnswerUnit → ℕ → ℕ → List ℕ → Handed
write_register u register value store = write_by u register value store (access_verdict u register (length store))
