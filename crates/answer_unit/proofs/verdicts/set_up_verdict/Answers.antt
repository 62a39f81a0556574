-- `answer_unit::verdicts::set_up_verdict` meets its contract: its tests are the links of the chain, in their order.
use mathlib.Core.Path.{sym, ◌∙◌}
use borrow.Author.Tests.{le-leb, lt-leb, not-true, not-false}
use Rattle.refusal.proofs.Passed.{passed}
use Rattle.answer_unit.proofs.Chains.{not_taken, taken}
use Rattle.answer_unit.proofs.verdicts.set_up_verdict.Goals as goal

pub returns-then-not-takes : goal.returns-then-not-takes
returns-then-not-takes c = not_taken c.args.c c.args.server (sym c.takes.ensures ∙ not-true _ c.if-not-takes.true-raw)

pub returns-in_err-verdict : goal.returns-in_err-verdict
returns-in_err-verdict c = let a = c.args in
    let v = c.verdict in
    let takes = sym c.takes.ensures ∙ not-false _ c.if-not-takes.false-raw in
    passed _ _ c.from_residual.ensures.1 ∙ taken a.c a.server takes c.verdict.result _ c.verdict.ensures (rw c.in_err-verdict.was)

pub returns-then-c-server : goal.returns-then-c-server
returns-then-c-server c = let a = c.args in
    let v = c.verdict in
    let takes = sym c.takes.ensures ∙ not-false _ c.if-not-takes.false-raw in
    taken a.c a.server takes c.verdict.result _ c.verdict.ensures
    (rw (c.in_ok-verdict.was, le-leb a.c.servers a.server c.if-c-server.true))

pub returns : goal.returns
returns c = let a = c.args in
    let v = c.verdict in
    let takes = sym c.takes.ensures ∙ not-false _ c.if-not-takes.false-raw in
    taken a.c a.server takes c.verdict.result _ c.verdict.ensures
    (rw (c.in_ok-verdict.was, lt-leb a.c.servers a.server c.if-c-server.false))
