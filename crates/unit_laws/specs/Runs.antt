-- Runs of accesses to an answer unit, reading an answer out, and queries one after another (document 02, item 12).
use Rattle.std.specs.Prelude.{false, cond, List, [], ◌∷◌, ◌++◌, map, ◌≡◌, ℕ, zero, suc, ◌≤◌, length}
use Rattle.answer_unit.specs.declared.AnswerUnit.{AnswerUnit}
use Rattle.answer_unit.specs.Unit.{bit}
use Rattle.answer_unit.specs.Registers.{read_register, write_register}

-- An access: a register is read, or written with a byte; and the store that it lends
pub data Access : Type 0 where
  reading : (register : ℕ) (store : List ℕ) → Access
  writing : (register value : ℕ) (store : List ℕ) → Access

-- the unit after it, done or refused
abbrev pub after : AnswerUnit → Access → AnswerUnit
after u (reading register store) = (read_register u register store).unit
after u (writing register value store) = (write_register u register value store).unit

-- one after another
unfoldable pub run : AnswerUnit → List Access → AnswerUnit
run u [] = u
run u (access ∷ accesses) = run (after u access) accesses

-- the bytes of a query, written to register 2
abbrev pub writing_all : List ℕ → List ℕ → List Access
writing_all query store = map (λ byte. writing 2 byte store) query

-- Reading out: while register 1 shows that an answer waits, register 3 is read, `most` times at most. The bytes
unfoldable pub read_out : ℕ → AnswerUnit → List ℕ → List ℕ
read_out zero u store = []
read_out (suc most) u store =
    cond (bit 1 (read_register u 1 store).byte) ((read_register u 3 store).byte ∷ read_out most (read_register u 3 store).unit store) []

-- the unit after it
unfoldable pub emptied : ℕ → AnswerUnit → List ℕ → AnswerUnit
emptied zero u store = u
emptied (suc most) u store = cond (bit 1 (read_register u 1 store).byte) (emptied most (read_register u 3 store).unit store) u

-- What the host is told of a query: register 4, and the bytes of the answer
pub record Reply : Type 0 where
  pub number : ℕ
  pub bytes : List ℕ

-- a query is written and started, by a value that is written to register 0
abbrev pub asking : List ℕ → ℕ → List ℕ → List Access
asking query value store = writing_all query store ++ (writing 0 value store ∷ [])

abbrev pub reply_of : AnswerUnit → List ℕ → Reply
reply_of u store = record { number = (read_register u 4 store).byte; bytes = read_out 64 u store }

-- queries one after another: each is written, started and read out
unfoldable pub replies : AnswerUnit → ℕ → List (List ℕ) → List ℕ → List Reply
replies u value [] store = []
replies u value (query ∷ queries) store =
    reply_of (run u (asking query value store)) store ∷ replies (emptied 64 (run u (asking query value store)) store) value queries store

-- A unit has the places of its type: 32 for the query, 64 for the answer. Every unit of the code has them
pub record Placed (u : AnswerUnit) : Type 0 where
  pub query-places : length u.query ≡ 32
  pub answer-places : length u.answer ≡ 64

-- what it holds is within its bounds: no access is refused 11
pub record Sound (u : AnswerUnit) : Type 0 where
  pub placed : Placed u
  pub held_fits : u.held ≤ 32
  pub waiting-fits : u.waiting ≤ u.catalogue.symbol

-- No query is begun and no answer waits: after set-up and reset, and once a start's answer is read out
pub record Idle (u : AnswerUnit) : Type 0 where
  pub none-held : u.held ≡ 0
  pub no-overrun : u.overrun ≡ false
  pub none-waits : u.waiting ≡ 0
