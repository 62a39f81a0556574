-- `session::verdicts::issue_verdict` meets its contract: the first faults are `served_verdict`'s, the last `sent_verdict`'s.
use mathlib.Core.Path.{◌≡◌, refl, sym, ap, ◌∙◌}
use native.Mathlib.Omega.{arith}
use borrow.Author.Tests.{lt-ltb, le-ltb}
use Rattle.refusal.proofs.Passed.{passed}
use Rattle.refusal.specs.Verdicts.{accepted}
use Rattle.refusal.specs.Foremost.{foremost}
use Rattle.refusal.proofs.Foremost.{after_first_lem}
use Rattle.parameters.specs.declared.Sizes.{Sizes}
use Rattle.codes.specs.Codes.{scheme_of}
use Rattle.session.specs.Calls.{ask_faults_on, issue_verdict}
use Rattle.session_checks.proofs.Links.{Asks, served-passed}
use Rattle.session_checks.proofs.Keys.{sizes-small, key-valid}
use Rattle.session.proofs.Places.{key-places}
use Rattle.session.proofs.verdicts.issue_verdict.Goals as goal

pub served_verdict-requires : goal.served_verdict-requires
served_verdict-requires c = key-places c.args.s _ c.well_formed.0

pub returns-in_err-served_verdict : goal.returns-in_err-served_verdict
unfolding issue_verdict
returns-in_err-served_verdict c = let args = c.args in
    passed _ _ c.from_residual.ensures.1 ∙ after_first_lem (ask_faults_on scheme_of args.s args.today args.server) _ refl refl _ _ c.served_verdict.ensures
    (rw c.in_err-served_verdict.was)

pub sizes_of-sizes-requires : goal.sizes_of-sizes-requires
sizes_of-sizes-requires c = let agrees : let args = c.args in foremost (ask_faults_on scheme_of args.s args.today args.server) ≡ accepted =
    sym c.served_verdict.ensures ∙ c.in_ok-served_verdict.was in
    let asks : let args = c.args in
    let s = args.s in Asks scheme_of s.catalogue s.wanted s.key args.server =
    let args = c.args in
    let s = args.s in
    (served-passed scheme_of s.catalogue s.wanted s.key args.today args.server (agrees)).0 in
    (asks).holds.admitted

pub returns-then-room-sizes : goal.returns-then-room-sizes
unfolding issue_verdict
returns-then-room-sizes c = let agrees : let args = c.args in foremost (ask_faults_on scheme_of args.s args.today args.server) ≡ accepted =
    sym c.served_verdict.ensures ∙ c.in_ok-served_verdict.was in
    after_first_lem _ _ refl refl accepted _ (sym (agrees)) (rw (← c.sizes_of-sizes.ensures, lt-ltb _ _ c.if-room-sizes.true))

pub held-requires : goal.held-requires
held-requires c = let agrees : let args = c.args in foremost (ask_faults_on scheme_of args.s args.today args.server) ≡ accepted =
    sym c.served_verdict.ensures ∙ c.in_ok-served_verdict.was in
    let asks : let args = c.args in
    let s = args.s in Asks scheme_of s.catalogue s.wanted s.key args.server =
    let args = c.args in
    let s = args.s in
    (served-passed scheme_of s.catalogue s.wanted s.key args.today args.server (agrees)).0 in
    let s = c.args.s in
    (sizes-small s.catalogue c.sizes_of-sizes.result (asks).holds.admitted c.sizes_of-sizes.ensures).key

pub sent_verdict-requires : goal.sent_verdict-requires
sent_verdict-requires c = let agrees : let args = c.args in foremost (ask_faults_on scheme_of args.s args.today args.server) ≡ accepted =
    sym c.served_verdict.ensures ∙ c.in_ok-served_verdict.was in
    let asks : let args = c.args in
    let s = args.s in Asks scheme_of s.catalogue s.wanted s.key args.server =
    let args = c.args in
    let s = args.s in
    (served-passed scheme_of s.catalogue s.wanted s.key args.today args.server (agrees)).0 in
    let s = c.args.s in
    let long = key-places s _ c.well_formed.0 in
    let sizes = c.sizes_of-sizes in
    let passed = asks in
    let holds = passed.holds in
    let valid = key-valid s.catalogue s.key long c.sizes_of-sizes.result holds.admitted c.sizes_of-sizes.ensures holds.good in
    let few = (sizes-small s.catalogue c.sizes_of-sizes.result holds.admitted c.sizes_of-sizes.ensures).servers in
    let held = c.held.ensures in
    record {
      checked = record {
        admitted = rw held.catalogue holds.admitted;
        query_value = rw (held.catalogue, held.query) (ap (λ (z : Sizes). z.query) c.sizes_of-sizes.ensures);
        wanted_lt_messages = rw (held.catalogue, held.wanted) holds.inside;
        valid = rw (held.catalogue, held.key) valid;
      };
      server_bound = omega (arith, passed.below, few);
    }

pub returns : goal.returns
unfolding issue_verdict
returns c = let agrees : let args = c.args in foremost (ask_faults_on scheme_of args.s args.today args.server) ≡ accepted =
    sym c.served_verdict.ensures ∙ c.in_ok-served_verdict.was in
    let roomy = rw c.sizes_of-sizes.ensures at c.if-room-sizes.false in
    after_first_lem _ _ refl refl accepted _ (sym (agrees))
    (rw (le-ltb _ _ roomy) (let held = c.held.ensures in
    rw (held.catalogue, held.wanted, held.key, held.issued, held.taken, held.meters, c.sizes_of-sizes.ensures) at c.sent_verdict.ensures))
