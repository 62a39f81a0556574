-- `session_checks::held::Held::due_verdict` meets its contract: the verdict on marks and meters decides, and else the server's two marks.
use mathlib.Core.Path.{◌∙◌}
use borrow.Author.Tests.{not-true, not-false}
use Rattle.refusal.proofs.Passed.{passed}
use Rattle.session_parts.specs.Marks.{marked}
use Rattle.refusal.proofs.Chain.{chain-after}
use Rattle.session_checks.specs.Holding.{history_of}
use Rattle.session_checks.specs.Checks.{due_faults}
use Rattle.session_checks.proofs.held.Held.due_verdict.Goals as goal

pub returns-in_err-history_verdict : goal.returns-in_err-history_verdict
returns-in_err-history_verdict c = let args = c.args in
    let past = history_of args.self in
    let due = due_faults args.self.issued.now args.self.taken.now args.server in
    passed _ _ c.from_residual.ensures.1 ∙ chain-after past due _ _ c.history_verdict.ensures (rw c.in_err-history_verdict.was)

pub returns-then-not-issued : goal.returns-then-not-issued
returns-then-not-issued c = let args = c.args in
    let past = history_of args.self in
    let due = due_faults args.self.issued.now args.self.taken.now args.server in
    chain-after past due _ _ c.history_verdict.ensures
    (rw (c.in_ok-history_verdict.was, not-true (marked args.self.issued.now args.server) c.if-not-issued.true-raw))

pub returns-then-taken : goal.returns-then-taken
returns-then-taken c = let args = c.args in
    let past = history_of args.self in
    let due = due_faults args.self.issued.now args.self.taken.now args.server in
    chain-after past due _ _ c.history_verdict.ensures
    (rw (c.in_ok-history_verdict.was, not-false (marked args.self.issued.now args.server) c.if-not-issued.false-raw, c.if-taken.true))

pub returns : goal.returns
returns c = let args = c.args in
    let past = history_of args.self in
    let due = due_faults args.self.issued.now args.self.taken.now args.server in
    chain-after past due _ _ c.history_verdict.ensures
    (rw (c.in_ok-history_verdict.was, not-false (marked args.self.issued.now args.server) c.if-not-issued.false-raw, c.if-taken.false))
