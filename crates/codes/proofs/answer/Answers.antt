-- `codes::answer` meets its contract: a query that the catalogue's code admits can be answered by that code.
use Rattle.parameters.specs.Measures.{even_sizes, turn_sizes}
use Rattle.short_scheme.proofs.Queries.{admits-row}
use Rattle.even_answer.proofs.Admission.{admitted-answerable}
use Rattle.turn_code.proofs.Queries.{admitted-row}
use Rattle.round_code.proofs.Fits.{admitted-digits}
use Rattle.codes.proofs.Promises.{admitted-short, admitted-even, admitted-turn, admitted-round, scheme-short, scheme-even, scheme-turn, scheme-round}
use Rattle.codes.proofs.answer.Goals as goal

pub answer-requires : goal.answer-requires
answer-requires c =
    let a = c.args in
    let e = c.in-Short.is in
    let s = scheme-short a.c e in
    let admits = rw s at c.requires.query_value in
    let long = rw s at c.requires.store_len in
    let room = rw s at c.requires.query_in_bounds in
    record {
      s_value = admitted-short a.c c.requires.admitted e;
      store_len = long;
      digit_row = admits-row a.c.servers a.c.messages a.server a.query.now admits;
      query_in_bounds = room;
    }

pub answer-requires-in-Even : goal.answer-requires-in-Even
unfolding even_sizes
answer-requires-in-Even c =
    let a = c.args in
    let e = c.in-Even.is in
    let s = scheme-even a.c e in
    let admits = rw s at c.requires.query_value in
    let long = rw s at c.requires.store_len in
    let room = rw s at c.requires.query_in_bounds in
    admitted-answerable a.c.servers a.c.messages a.c.symbol a.server a.store.now a.query.now a.out.now
    (admitted-even a.c c.requires.admitted e) long admits room

pub answer-requires-in-Turn : goal.answer-requires-in-Turn
unfolding turn_sizes
answer-requires-in-Turn c =
    let a = c.args in
    let e = c.in-Turn.is in
    let s = scheme-turn a.c e in
    let admits = rw s at c.requires.query_value in
    let long = rw s at c.requires.store_len in
    let room = rw s at c.requires.query_in_bounds in
    record {
      s_value = admitted-turn a.c c.requires.admitted e;
      store_len = long;
      digit_row = admitted-row a.c.servers a.c.messages a.query.now admits;
      query_in_bounds = room;
    }

pub answer-requires-in-Round : goal.answer-requires-in-Round
answer-requires-in-Round c =
    let a = c.args in
    let e = c.in-Round.is in
    let s = scheme-round a.c e in
    let admits = rw s at c.requires.query_value in
    let long = rw s at c.requires.store_len in
    let room = rw s at c.requires.query_in_bounds in record {
      s_value = admitted-round a.c c.requires.admitted e;
      store_len = long;
      digit_rows = admitted-digits a.c.servers a.c.messages a.server a.query.now admits;
      k_in_bounds = room;
    }

pub returns-in-Short : goal.returns-in-Short
returns-in-Short c =
    rw (scheme-short c.args.c
    c.in-Short.is) c.answer.ensures

pub returns-in-Even : goal.returns-in-Even
returns-in-Even c =
    rw (scheme-even c.args.c
    c.in-Even.is) c.answer-in-Even.ensures

pub returns-in-Turn : goal.returns-in-Turn
returns-in-Turn c =
    rw (scheme-turn c.args.c
    c.in-Turn.is) c.answer-in-Turn.ensures

pub returns-in-Round : goal.returns-in-Round
returns-in-Round c =
    rw (scheme-round c.args.c
    c.in-Round.is) c.answer-in-Round.ensures
