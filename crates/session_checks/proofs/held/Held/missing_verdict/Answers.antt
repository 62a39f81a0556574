-- `session_checks::held::Held::missing_verdict` meets its contract: the verdict on marks and meters decides, and else whether all answers are taken.
use mathlib.Core.Path.{◌≡◌, sym, ◌∙◌}
use mathlib.Core.Bool.{true, false}
use mathlib.Core.List.{[], ◌∷◌}
use borrow.Author.Tests.{not-true, not-false}
use Rattle.refusal.proofs.Passed.{passed}
use Rattle.refusal.proofs.Chain.{chain-after}
use Rattle.session_parts.specs.Marks.{all_taken}
use Rattle.session_checks.specs.Holding.{history_of}
use Rattle.session_checks.specs.Checks.{missing_fault}
use Rattle.session_checks.proofs.held.Held.missing_verdict.Goals as goal

pub returns-in_err-history_verdict : goal.returns-in_err-history_verdict
returns-in_err-history_verdict c = let args = c.args in
    let past = history_of args.self in
    let missing = missing_fault args.self.catalogue.servers args.self.taken.now ∷ [] in
    passed _ _ c.from_residual.ensures.1 ∙ chain-after past missing _ _ c.history_verdict.ensures (rw c.in_err-history_verdict.was)

pub returns-then-not-all_taken : goal.returns-then-not-all_taken
returns-then-not-all_taken c = let args = c.args in
    let all : all_taken args.self.catalogue.servers args.self.taken.now ≡ false = sym c.all_taken.ensures ∙ not-true _ c.if-not-all_taken.true-raw in
    let past = history_of args.self in
    let missing = missing_fault args.self.catalogue.servers args.self.taken.now ∷ [] in
    chain-after past missing _ _ c.history_verdict.ensures
    (rw (c.in_ok-history_verdict.was, all))

pub returns : goal.returns
returns c = let args = c.args in
    let all : all_taken args.self.catalogue.servers args.self.taken.now ≡ true = sym c.all_taken.ensures ∙ not-false _ c.if-not-all_taken.false-raw in
    let past = history_of args.self in
    let missing = missing_fault args.self.catalogue.servers args.self.taken.now ∷ [] in
    chain-after past missing _ _ c.history_verdict.ensures
    (rw (c.in_ok-history_verdict.was, all))
