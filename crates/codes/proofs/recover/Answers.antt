-- `codes::recover` meets its contract: what the catalogue's code recovers stands at the start of the message, as far as that reaches.
use Rattle.codes.proofs.Promises.{admitted-short, admitted-even, admitted-turn, admitted-round, scheme-short, scheme-even, scheme-turn, scheme-round}
use Rattle.codes.proofs.recover.Goals as goal

pub recover-requires : goal.recover-requires
recover-requires c =
    let a = c.args in
    let e = c.in-Short.is in
    let s = scheme-short a.c e in
    record {
      s_value = admitted-short a.c c.requires.admitted e;
      valid = rw s at c.requires.valid;
      s_in_bounds = rw s at c.requires.c_in_bounds;
    }

pub recover-requires-in-Even : goal.recover-requires-in-Even
recover-requires-in-Even c =
    let a = c.args in
    let e = c.in-Even.is in
    let s = scheme-even a.c e in
    record {
      s_value = admitted-even a.c c.requires.admitted e;
      wanted_lt_k = c.requires.wanted_lt_messages;
      valid = rw s at c.requires.valid;
      s_in_bounds = rw s at c.requires.c_in_bounds;
    }

pub recover-requires-in-Turn : goal.recover-requires-in-Turn
recover-requires-in-Turn c =
    let a = c.args in
    let e = c.in-Turn.is in
    let s = scheme-turn a.c e in
    record {
      s_value = admitted-turn a.c c.requires.admitted e;
      valid = rw s at c.requires.valid;
      s_in_bounds = rw s at c.requires.c_in_bounds;
    }

pub recover-requires-in-Round : goal.recover-requires-in-Round
recover-requires-in-Round c =
    let a = c.args in
    let e = c.in-Round.is in
    let s = scheme-round a.c e in
    record {
      s_value = admitted-round a.c c.requires.admitted e;
      wanted_lt_k = c.requires.wanted_lt_messages;
      valid = rw s at c.requires.valid;
      s_in_bounds = rw s at c.requires.c_in_bounds;
    }

pub returns-in-Short : goal.returns-in-Short
returns-in-Short c =
    rw (scheme-short c.args.c
    c.in-Short.is) c.recover.ensures

pub returns-in-Even : goal.returns-in-Even
returns-in-Even c =
    rw (scheme-even c.args.c
    c.in-Even.is) c.recover-in-Even.ensures

pub returns-in-Turn : goal.returns-in-Turn
returns-in-Turn c =
    rw (scheme-turn c.args.c
    c.in-Turn.is) c.recover-in-Turn.ensures

pub returns-in-Round : goal.returns-in-Round
returns-in-Round c =
    rw (scheme-round c.args.c
    c.in-Round.is) c.recover-in-Round.ensures
