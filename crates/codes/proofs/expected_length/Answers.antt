-- `codes::expected_length` meets its contract: the short, the turning and the round code know the length from the key and the
-- server, and the even code's is a whole slot.
use native.Mathlib.Omega.{arith}
use Rattle.parameters.specs.Measures.{turn_sizes, even_sizes}
use Rattle.codes.proofs.Promises.{admitted-round, scheme-short, scheme-even, scheme-turn, scheme-round}
use Rattle.codes.proofs.expected_length.Goals as goal

pub expected_length-requires-in-Turn : goal.expected_length-requires-in-Turn
unfolding turn_sizes
expected_length-requires-in-Turn c =
    let a = c.args in
    let key = rw (scheme-turn a.c c.in-Turn.is) at c.requires.valid in
    let long = key.long in
    record {
      server_lt_n = c.requires.wanted_lt_messages.1;
      key_nonzero = (omega arith, key.good);
    }

pub expected_length-requires-in-Round : goal.expected_length-requires-in-Round
expected_length-requires-in-Round c =
    let a = c.args in
    let e = c.in-Round.is in
    let key = rw (scheme-round a.c e) at c.requires.valid in
    record {
      s_value = admitted-round a.c c.requires.admitted e;
      wanted_lt_k = c.requires.wanted_lt_messages;
      key_value = key.good;
    }

pub returns-in-Short : goal.returns-in-Short
returns-in-Short c =
    rw (scheme-short c.args.c c.in-Short.is) c.expected_length.ensures

pub returns-in-Even : goal.returns-in-Even
unfolding even_sizes
returns-in-Even c =
    let e = scheme-even c.args.c c.in-Even.is in
    rw e (rw e at c.slot.ensures)

pub returns-in-Turn : goal.returns-in-Turn
returns-in-Turn c =
    rw (scheme-turn c.args.c c.in-Turn.is) c.expected_length-in-Turn.ensures

pub returns-in-Round : goal.returns-in-Round
returns-in-Round c =
    rw (scheme-round c.args.c c.in-Round.is) c.expected_length-in-Round.ensures
