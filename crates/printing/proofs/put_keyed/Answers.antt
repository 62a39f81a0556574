-- `printing::put_keyed` meets its contract: the key's entries are refused, or the verdict is accepted and the queries are written.
use mathlib.Core.Path.{◌≡◌, sym, ◌∙◌}
use mathlib.Core.Bool.{true}
use borrow.Author.Tests.{not-true, not-false}
use lib.ListN.{length}
use Rattle.codes.specs.Codes.{scheme_of}
use Rattle.session.specs.Calls.{begin_verdict}
use Rattle.session.proofs.Begin.{begin-accepted}
use Rattle.printing.proofs.Answers.{Checked, answer-bad-key, answer-queries}
use Rattle.printing.proofs.Parts.{written_as}
use Rattle.printing.proofs.put_keyed.Goals as goal
use Rattle.std.specs.Prelude.{Ok}

pub returns-then-not-key_good : goal.returns-then-not-key_good
returns-then-not-key_good c = let a = c.args in
    let bad = sym c.key_good.ensures ∙ not-true _ c.if-not-key_good.true-raw in
    let checked : Checked scheme_of a.c a.wanted (length a.key.now) =
    record { admitted = c.requires.admitted.0; inside = c.requires.admitted.1; long = c.requires.key_len.0 } in
    let w = written_as _ _ a.out.now _ _ (answer-bad-key scheme_of a.c a.wanted a.key.now checked bad) (c.put_refusal.ensures.value, c.put_refusal.ensures.out_after) in
    record { value = w.0; out_after = w.1 }

pub invariant_of-queries : goal.invariant_of-queries
invariant_of-queries c = let agrees : (scheme_of c.args.c).key_good c.args.key.now ≡ true
    → begin_verdict scheme_of c.args.c c.args.wanted c.args.key.now ≡ (Ok _) =
    λ good. begin-accepted scheme_of c.args.c c.args.wanted c.args.key.now
    (record { admitted = c.requires.admitted.0; inside = c.requires.admitted.1; valid = record { long = c.requires.key_len.0; good = good } }) in
    let good = sym c.key_good.ensures ∙ not-false _ c.if-not-key_good.false-raw in
    record {
      begun = agrees good;
      sized = c.requires.size_value.0;
    }

pub returns : goal.returns
returns c = let agrees : (scheme_of c.args.c).key_good c.args.key.now ≡ true
    → begin_verdict scheme_of c.args.c c.args.wanted c.args.key.now ≡ (Ok _) =
    λ good. begin-accepted scheme_of c.args.c c.args.wanted c.args.key.now
    (record { admitted = c.requires.admitted.0; inside = c.requires.admitted.1; valid = record { long = c.requires.key_len.0; good = good } }) in
    let a = c.args in
    let good = sym c.key_good.ensures ∙ not-false _ c.if-not-key_good.false-raw in
    let e = answer-queries scheme_of a.c a.wanted a.key.now (agrees good) c.requires.key_len.1 in
    let w = written_as _ _ a.out.now _ _ e (c.put_queries.ensures.value, c.put_queries.ensures.out_after) in
    record { value = w.0; out_after = w.1 }
