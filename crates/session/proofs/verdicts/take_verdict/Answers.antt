-- `session::verdicts::take_verdict` meets its contract: the first faults are `server_verdict`'s, the last `due_verdict`'s.
use mathlib.Core.Path.{◌≡◌, refl, sym, ap, ◌∙◌}
use native.Mathlib.Omega.{arith}
use borrow.Author.Tests.{lt-ltb, le-ltb, eq-eqb, ne_eqb}
use Rattle.refusal.proofs.Passed.{passed}
use Rattle.refusal.specs.Verdicts.{accepted}
use Rattle.refusal.specs.Foremost.{foremost}
use Rattle.refusal.proofs.Foremost.{after_first_lem}
use Rattle.parameters.specs.declared.Sizes.{Sizes}
use Rattle.codes.specs.Codes.{scheme_of}
use Rattle.session.specs.Calls.{ask_faults, take_verdict}
use Rattle.session_checks.proofs.Links.{Asks, server-passed}
use Rattle.session_checks.proofs.Keys.{sizes-small, key-valid}
use Rattle.session.proofs.Places.{key-places}
use Rattle.session.proofs.verdicts.take_verdict.Goals as goal

pub server_verdict-requires : goal.server_verdict-requires
server_verdict-requires c = key-places c.args.s _ c.well_formed.0

pub returns-in_err-server_verdict : goal.returns-in_err-server_verdict
unfolding take_verdict
returns-in_err-server_verdict c = let args = c.args in
    passed _ _ c.from_residual.ensures.1 ∙ after_first_lem (ask_faults scheme_of args.s args.server) _ refl refl _ _ c.server_verdict.ensures (rw c.in_err-server_verdict.was)

pub sizes_of-sizes-requires : goal.sizes_of-sizes-requires
sizes_of-sizes-requires c = let agrees : let args = c.args in foremost (ask_faults scheme_of args.s args.server) ≡ accepted =
    sym c.server_verdict.ensures ∙ c.in_ok-server_verdict.was in
    let asks : let args = c.args in
    let s = args.s in Asks scheme_of s.catalogue s.wanted s.key args.server =
    let args = c.args in
    let s = args.s in
    server-passed scheme_of s.catalogue s.wanted s.key args.server (agrees) in
    (asks).holds.admitted

pub overflow_mul-s : goal.overflow_mul-s
overflow_mul-s c = let agrees : let args = c.args in foremost (ask_faults scheme_of args.s args.server) ≡ accepted =
    sym c.server_verdict.ensures ∙ c.in_ok-server_verdict.was in
    let asks : let args = c.args in
    let s = args.s in Asks scheme_of s.catalogue s.wanted s.key args.server =
    let args = c.args in
    let s = args.s in
    server-passed scheme_of s.catalogue s.wanted s.key args.server (agrees) in
    let passed = asks in
    let s = c.args.s in
    omega (arith, (sizes-small s.catalogue c.sizes_of-sizes.result passed.holds.admitted c.sizes_of-sizes.ensures).slots)

pub returns-then-room-s : goal.returns-then-room-s
unfolding take_verdict
returns-then-room-s c = let agrees : let args = c.args in foremost (ask_faults scheme_of args.s args.server) ≡ accepted =
    sym c.server_verdict.ensures ∙ c.in_ok-server_verdict.was in
    after_first_lem _ _ refl refl accepted _ (sym (agrees)) (rw (← c.sizes_of-sizes.ensures, lt-ltb _ _ c.if-room-s.true))

pub answer_length-requires : goal.answer_length-requires
answer_length-requires c = let agrees : let args = c.args in foremost (ask_faults scheme_of args.s args.server) ≡ accepted =
    sym c.server_verdict.ensures ∙ c.in_ok-server_verdict.was in
    let asks : let args = c.args in
    let s = args.s in Asks scheme_of s.catalogue s.wanted s.key args.server =
    let args = c.args in
    let s = args.s in
    server-passed scheme_of s.catalogue s.wanted s.key args.server (agrees) in
    let passed = asks in
    record {
      admitted = passed.holds.admitted;
      places_len = key-places c.args.s _ c.well_formed.0;
      wanted_lt_messages = (passed.holds.inside, passed.below);
      places_value = passed.holds.good;
    }

pub returns-then-size-answer_length : goal.returns-then-size-answer_length
unfolding take_verdict
returns-then-size-answer_length c = let agrees : let args = c.args in foremost (ask_faults scheme_of args.s args.server) ≡ accepted =
    sym c.server_verdict.ensures ∙ c.in_ok-server_verdict.was in
    after_first_lem _ _ refl refl accepted _ (sym (agrees))
    (rw (← c.answer_length.ensures, ne_eqb _ _ c.if-size-answer_length.true, ← c.sizes_of-sizes.ensures, le-ltb _ _ c.if-room-s.false))

pub held-requires : goal.held-requires
held-requires c = let agrees : let args = c.args in foremost (ask_faults scheme_of args.s args.server) ≡ accepted =
    sym c.server_verdict.ensures ∙ c.in_ok-server_verdict.was in
    let asks : let args = c.args in
    let s = args.s in Asks scheme_of s.catalogue s.wanted s.key args.server =
    let args = c.args in
    let s = args.s in
    server-passed scheme_of s.catalogue s.wanted s.key args.server (agrees) in
    let s = c.args.s in
    (sizes-small s.catalogue c.sizes_of-sizes.result (asks).holds.admitted c.sizes_of-sizes.ensures).key

pub due_verdict-requires : goal.due_verdict-requires
due_verdict-requires c = let agrees : let args = c.args in foremost (ask_faults scheme_of args.s args.server) ≡ accepted =
    sym c.server_verdict.ensures ∙ c.in_ok-server_verdict.was in
    let asks : let args = c.args in
    let s = args.s in Asks scheme_of s.catalogue s.wanted s.key args.server =
    let args = c.args in
    let s = args.s in
    server-passed scheme_of s.catalogue s.wanted s.key args.server (agrees) in
    let s = c.args.s in
    let long = key-places s _ c.well_formed.0 in
    let sizes = c.sizes_of-sizes in
    let passed = asks in
    let holds = passed.holds in
    let valid = key-valid s.catalogue s.key long c.sizes_of-sizes.result holds.admitted c.sizes_of-sizes.ensures holds.good in
    let few = (sizes-small s.catalogue c.sizes_of-sizes.result holds.admitted c.sizes_of-sizes.ensures).servers in
    let held = c.held.ensures in
    record {
      checked = record {
        admitted = rw held.catalogue holds.admitted;
        query_value = rw (held.catalogue, held.query) (ap (λ (z : Sizes). z.query) c.sizes_of-sizes.ensures);
        wanted_lt_messages = rw (held.catalogue, held.wanted) holds.inside;
        valid = rw (held.catalogue, held.key) valid;
      };
      server_bound = omega (arith, passed.below, few);
    }

pub returns : goal.returns
unfolding take_verdict
returns c = let agrees : let args = c.args in foremost (ask_faults scheme_of args.s args.server) ≡ accepted =
    sym c.server_verdict.ensures ∙ c.in_ok-server_verdict.was in
    let roomy = rw c.sizes_of-sizes.ensures at c.if-room-s.false in
    after_first_lem _ _ refl refl accepted _ (sym (agrees))
    (rw (eq-eqb _ _ (c.if-size-answer_length.false ∙ c.answer_length.ensures), le-ltb _ _ roomy) (let held = c.held.ensures in
    rw (held.catalogue, held.wanted, held.key, held.issued, held.taken, held.meters, c.sizes_of-sizes.ensures) at c.due_verdict.ensures))
