-- `codes::query` meets its contract: a valid key of the catalogue's code is what that code's query asks for.
use native.Mathlib.Omega.{arith}
use Rattle.parameters.specs.Measures.{short_sizes, even_sizes, turn_sizes, round_sizes}
use Rattle.parameters.proofs.Bounds.{short-bounds, even-bounds}
use Rattle.even_sets.proofs.Fits.{layout-fits}
use Rattle.round_code.proofs.Fits.{fits-numbers}
use Rattle.codes.proofs.Promises.{admitted-short, admitted-even, admitted-turn, admitted-round, scheme-short, scheme-even, scheme-turn, scheme-round}
use Rattle.codes.proofs.query.Goals as goal

pub query-requires : goal.query-requires
unfolding short_sizes
query-requires c =
    let a = c.args in
    let e = c.in-Short.is in
    let s = scheme-short a.c e in
    let key = rw s at c.requires.valid in
    let room = rw s at c.requires.c_in_bounds in
    let b = short-bounds a.c.servers a.c.messages a.c.symbol (admitted-short a.c c.requires.admitted e) in
    let long = key.long in
    record {
      server_lt_n = (c.requires.wanted_lt_messages.1, b.servers-high);
      key_value = key.good;
      wanted_in_bounds = (omega arith, omega arith);
    }

pub query-requires-in-Even : goal.query-requires-in-Even
unfolding even_sizes
query-requires-in-Even c =
    let a = c.args in
    let e = c.in-Even.is in
    let s = scheme-even a.c e in
    let key = rw s at c.requires.valid in
    let room = rw s at c.requires.c_in_bounds in
    let fits = admitted-even a.c c.requires.admitted e in
    let b = even-bounds a.c.servers a.c.messages a.c.symbol fits in (
      record {
        bounds = layout-fits a.c.servers a.c.messages a.c.symbol fits;
        servers-high = b.servers-high;
        message = c.requires.wanted_lt_messages.0;
        server-low = c.requires.wanted_lt_messages.1;
      },
      key.long,
      room,
    )

pub query-requires-in-Turn : goal.query-requires-in-Turn
unfolding turn_sizes short_sizes
query-requires-in-Turn c =
    let a = c.args in
    let e = c.in-Turn.is in
    let s = scheme-turn a.c e in
    let key = rw s at c.requires.valid in
    let room = rw s at c.requires.c_in_bounds in
    let b = short-bounds a.c.servers a.c.messages a.c.symbol (admitted-turn a.c c.requires.admitted e) in
    let long = key.long in
    record {
      server_lt_n = (c.requires.wanted_lt_messages.1, b.servers-high);
      key_value = key.good;
      wanted_in_bounds = (omega arith, omega arith);
    }

pub query-requires-in-Round : goal.query-requires-in-Round
unfolding round_sizes
query-requires-in-Round c =
    let a = c.args in
    let e = c.in-Round.is in
    let s = scheme-round a.c e in
    let key = rw s at c.requires.valid in
    let room = rw s at c.requires.c_in_bounds in record {
      round_numbers = fits-numbers a.c.servers a.c.messages a.c.symbol (admitted-round a.c c.requires.admitted e);
      wanted_lt_k = c.requires.wanted_lt_messages;
      key_value = key.good;
      k_in_bounds = room;
    }

pub returns-in-Short : goal.returns-in-Short
returns-in-Short c =
    rw (scheme-short c.args.c c.in-Short.is)
    c.query.ensures

pub returns-in-Even : goal.returns-in-Even
returns-in-Even c =
    rw (scheme-even c.args.c c.in-Even.is)
    c.query-in-Even.ensures

pub returns-in-Turn : goal.returns-in-Turn
returns-in-Turn c =
    rw (scheme-turn c.args.c c.in-Turn.is)
    c.query-in-Turn.ensures

pub returns-in-Round : goal.returns-in-Round
returns-in-Round c =
    rw (scheme-round c.args.c
    c.in-Round.is) c.query-in-Round.ensures
