-- `codes::locate` meets its contract: each arm asks by the code that the catalogue names, of a query that it admits.
use mathlib.Core.Path.{◌≡◌, sym, ap, ◌∙◌}
use mathlib.Core.List.{List}
use Prim.Native.Nat.{ℕ}
use native.Mathlib.Omega.{arith}
use Rattle.parameters.specs.Measures.{short_sizes, turn_sizes, even_sizes, round_sizes}
use Rattle.catalogue.specs.declared.Catalogue.{Catalogue}
use Rattle.catalogue.specs.declared.Code.TheVariants.{Short, Even, Turn, Round}
use Rattle.catalogue.proofs.Admitted.{admitted-numbers}
use Rattle.short_scheme.proofs.Queries.{admits-row}
use Rattle.even_scheme.proofs.Reach.{admitted}
use Rattle.turn_code.proofs.Queries.{admitted-row}
use Rattle.round_code.proofs.Fits.{admitted-digits}
use Rattle.codes.proofs.Promises.{admitted-even, admitted-round, scheme-short, scheme-even, scheme-turn, scheme-round}
use Rattle.scheme.specs.Asked.{place_naming}
use Rattle.short_scheme.specs.Asked.{digit_rows}
use Rattle.even_scheme.specs.Asked.{layout_rows}
use Rattle.round_scheme.specs.Asked.{block_rows}
use Rattle.codes.specs.Asked.{rows_of}
use Rattle.codes.proofs.locate.Goals as goal

-- the rows of a catalogue whose code is known
rows_short : (c : Catalogue) (query : List ℕ) → c.code ≡ Short → rows_of c query ≡ digit_rows 0 query
unfolding rows_of
rows_short c query e = rw e

rows-even : (c : Catalogue) (query : List ℕ) → c.code ≡ Even → rows_of c query ≡ layout_rows c.servers c.messages query
unfolding rows_of
rows-even c query e = rw e

rows-turn : (c : Catalogue) (query : List ℕ) → c.code ≡ Turn → rows_of c query ≡ digit_rows 0 query
unfolding rows_of
rows-turn c query e = rw e

rows-round : (c : Catalogue) (query : List ℕ) → c.code ≡ Round → rows_of c query ≡ block_rows c.servers c.messages query
unfolding rows_of
rows-round c query e = rw e

pub locate-requires : goal.locate-requires
unfolding short_sizes
locate-requires c =
    let a = c.args in
    let s = scheme-short a.c c.in-Short.is in
    let admits = rw s at c.requires.query_value in
    let known = rw s at c.requires.message_lt_messages in
    let row = admits-row a.c.servers a.c.messages a.server a.query.now admits in
    let numbers = admitted-numbers a.c c.requires.admitted in
    record {
      message_in_bounds = omega (arith, row.long, known);
      symbol_bound = omega (arith, known, numbers.servers-high);
    }

pub locate-requires-in-Even : goal.locate-requires-in-Even
unfolding even_sizes
locate-requires-in-Even c =
    let a = c.args in
    let e = c.in-Even.is in
    let s = scheme-even a.c e in
    let admits = rw s at c.requires.query_value in
    let known = rw s at c.requires.message_lt_messages in
    record {
      s_value = admitted-even a.c c.requires.admitted e;
      query_len = (admitted a.c.servers a.c.messages a.server a.query.now admits).long;
    }

pub locate-requires-in-Turn : goal.locate-requires-in-Turn
unfolding turn_sizes short_sizes
locate-requires-in-Turn c =
    let a = c.args in
    let s = scheme-turn a.c c.in-Turn.is in
    let admits = rw s at c.requires.query_value in
    let known = rw s at c.requires.message_lt_messages in
    let row = admitted-row a.c.servers a.c.messages a.query.now admits in
    let numbers = admitted-numbers a.c c.requires.admitted in
    record {
      message_in_bounds = omega (arith, row.long, known);
      symbol_bound = omega (arith, known, numbers.servers-high);
    }

pub locate-requires-in-Round : goal.locate-requires-in-Round
unfolding round_sizes
locate-requires-in-Round c =
    let a = c.args in
    let e = c.in-Round.is in
    let s = scheme-round a.c e in
    let admits = rw s at c.requires.query_value in
    let known = rw s at c.requires.message_lt_messages in
    record {
      s_value = admitted-round a.c c.requires.admitted e;
      digit_rows = admitted-digits a.c.servers a.c.messages a.server a.query.now admits;
      message_lt_k = known;
    }

pub returns-in-Short : goal.returns-in-Short
returns-in-Short c =
    let a = c.args in
    c.locate.ensures
    ∙ ap (place_naming a.c.symbol a.message a.symbol) (sym (rows_short a.c a.query.now c.in-Short.is))

pub returns-in-Even : goal.returns-in-Even
returns-in-Even c =
    let a = c.args in
    c.locate-in-Even.ensures
    ∙ ap (place_naming a.c.symbol a.message a.symbol) (sym (rows-even a.c a.query.now c.in-Even.is))

pub returns-in-Turn : goal.returns-in-Turn
returns-in-Turn c =
    let a = c.args in
    c.locate-in-Turn.ensures
    ∙ ap (place_naming a.c.symbol a.message a.symbol) (sym (rows-turn a.c a.query.now c.in-Turn.is))

pub returns-in-Round : goal.returns-in-Round
returns-in-Round c =
    let a = c.args in
    c.locate-in-Round.ensures
    ∙ ap (place_naming a.c.symbol a.message a.symbol) (sym (rows-round a.c a.query.now c.in-Round.is))
