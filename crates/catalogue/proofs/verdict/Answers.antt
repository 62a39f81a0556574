-- `catalogue::verdict` meets its contract: the chain's links are the test of the bounds, then that of a single message, then that of an odd symbol.
use mathlib.Core.Path.{◌≡◌, sym, ◌∙◌}
use mathlib.Core.Bool.{true, false}
use borrow.Author.Tests.{eq-eqb, ne_eqb, not-true, not-false}
use lib.Dec.{eqb}
use Rattle.catalogue.specs.Catalogue.{in_bounds}
use Rattle.catalogue.proofs.Faults.{catalogue-chain}
use Rattle.catalogue.proofs.verdict.Goals as goal

pub returns-then-not-in_bounds : goal.returns-then-not-in_bounds
returns-then-not-in_bounds c =
    rw (catalogue-chain c.args.c, sym c.in_bounds.ensures ∙ not-true c.in_bounds.result c.if-not-in_bounds.true-raw)

pub returns-then-c-eq1 : goal.returns-then-c-eq1
returns-then-c-eq1 c =
    let kept : in_bounds c.args.c ≡ true = sym c.in_bounds.ensures ∙ not-false c.in_bounds.result c.if-not-in_bounds.false-raw in
    rw (catalogue-chain c.args.c, kept, eq-eqb _ _ c.if-c-eq1.true)

pub returns-then-not-whole_words : goal.returns-then-not-whole_words
returns-then-not-whole_words c =
    let kept : in_bounds c.args.c ≡ true = sym c.in_bounds.ensures ∙ not-false c.in_bounds.result c.if-not-in_bounds.false-raw in
    let several : eqb c.args.c.messages 1 ≡ false = ne_eqb _ _ c.if-c-eq1.false in
    let whole : c.whole_words.result ≡ false = not-true _ c.if-not-whole_words.true-raw in
    rw (catalogue-chain c.args.c, kept, several, sym c.whole_words.ensures ∙ whole)

pub returns : goal.returns
returns c =
    let kept : in_bounds c.args.c ≡ true = sym c.in_bounds.ensures ∙ not-false c.in_bounds.result c.if-not-in_bounds.false-raw in
    let several : eqb c.args.c.messages 1 ≡ false = ne_eqb _ _ c.if-c-eq1.false in
    let whole : c.whole_words.result ≡ true = not-false _ c.if-not-whole_words.false-raw in
    rw (catalogue-chain c.args.c, kept, several, sym c.whole_words.ensures ∙ whole)
