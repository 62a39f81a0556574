-- Values of the answer unit (document 02, item 12): bits of a byte, the unit after set-up, and the unit with some of its fields changed. Of its query
-- `held` bytes are there; of an answer, which has S bytes or none, the last `waiting` are still to be read.
use Rattle.std.specs.Prelude.{Bool, false, cond, List, ℕ, ◌/◌, ◌%◌, ltb, eqb, take, replicate}
use Rattle.catalogue.specs.declared.Catalogue.{Catalogue}
use Rattle.catalogue.specs.Catalogue.{zero_catalogue}
use Rattle.answer_unit.specs.declared.AnswerUnit.{AnswerUnit}

-- ---- bits

-- the bit of a weight in a byte: bit 0 has weight 1, bit 1 weight 2, bit 7 weight 128
abbrev pub bit : ℕ → ℕ → Bool
bit weight value = eqb ((value / weight) % 2) 1

-- a bit at its place
abbrev pub weigh : Bool → ℕ → ℕ
weigh there weight = cond there weight 0

-- ---- whole units

-- after set-up and after reset: everything is cleared but the catalogue and the server's number
unfoldable pub fresh : Catalogue → ℕ → AnswerUnit
fresh c server = record {
  catalogue = c;
  server = server;
  enable = false;
  flag = false;
  overrun = false;
  held = 0;
  query = replicate 32 0;
  refused = false;
  refusal = 0;
  waiting = 0;
  answer = replicate 64 0;
}

-- zeros, the code short, the sum exclusive or: a unit that was never set up
unfoldable pub zero_unit : AnswerUnit
zero_unit = fresh zero_catalogue 0

-- ---- parts of a unit

-- an answer waits
abbrev pub waits : AnswerUnit → Bool
waits u = ltb 0 u.waiting

-- the query's bytes so far
abbrev pub asked : AnswerUnit → List ℕ
asked u = take u.held u.query

-- ---- a unit with other interrupt bits (enable, flag), another query (overrun bit, bytes held, places), another answer (refused bit, refusal number,
-- bytes waiting, places)

abbrev pub with_line : AnswerUnit → Bool → Bool → AnswerUnit
with_line u enable flag = record {
  catalogue = u.catalogue;
  server = u.server;
  enable = enable;
  flag = flag;
  overrun = u.overrun;
  held = u.held;
  query = u.query;
  refused = u.refused;
  refusal = u.refusal;
  waiting = u.waiting;
  answer = u.answer;
}

abbrev pub with_query : AnswerUnit → Bool → ℕ → List ℕ → AnswerUnit
with_query u overrun held query = record {
  catalogue = u.catalogue;
  server = u.server;
  enable = u.enable;
  flag = u.flag;
  overrun = overrun;
  held = held;
  query = query;
  refused = u.refused;
  refusal = u.refusal;
  waiting = u.waiting;
  answer = u.answer;
}

abbrev pub with_answer : AnswerUnit → Bool → ℕ → ℕ → List ℕ → AnswerUnit
with_answer u refused refusal waiting answer = record {
  catalogue = u.catalogue;
  server = u.server;
  enable = u.enable;
  flag = u.flag;
  overrun = u.overrun;
  held = u.held;
  query = u.query;
  refused = refused;
  refusal = refusal;
  waiting = waiting;
  answer = answer;
}
