-- `session::verdicts::recover_verdict` meets its contract: the first faults are `session_verdict`'s, the last `missing_verdict`'s.
use mathlib.Core.Path.{◌≡◌, refl, sym, ap, ◌∙◌}
use native.Mathlib.Omega.{arith}
use borrow.Author.Tests.{lt-ltb, le-ltb}
use Rattle.refusal.proofs.Passed.{passed}
use Rattle.refusal.specs.Verdicts.{accepted}
use Rattle.refusal.specs.Foremost.{foremost}
use Rattle.refusal.proofs.Foremost.{after_first_lem}
use Rattle.parameters.specs.declared.Sizes.{Sizes}
use Rattle.catalogue.specs.Catalogue.{Admitted}
use Rattle.codes.specs.Codes.{scheme_of}
use Rattle.session.specs.Calls.{own_faults, recover_verdict}
use Rattle.session_checks.proofs.Links.{session-passed}
use Rattle.session_checks.proofs.Keys.{sizes-small, key-valid}
use Rattle.session.proofs.Places.{key-places}
use Rattle.session.proofs.verdicts.recover_verdict.Goals as goal

pub session_verdict-requires : goal.session_verdict-requires
session_verdict-requires c = key-places c.args.s _ c.well_formed.0

pub returns-in_err-session_verdict : goal.returns-in_err-session_verdict
unfolding recover_verdict
returns-in_err-session_verdict c = let s = c.args.s in
    passed _ _ c.from_residual.ensures.1 ∙ after_first_lem (own_faults scheme_of s) _ refl refl _ _ c.session_verdict.ensures (rw c.in_err-session_verdict.was)

pub sizes_of-sizes-requires : goal.sizes_of-sizes-requires
sizes_of-sizes-requires c = let agrees : foremost (own_faults scheme_of c.args.s) ≡ accepted =
    sym c.session_verdict.ensures ∙ c.in_ok-session_verdict.was in
    let admitted : Admitted c.args.s.catalogue =
    let s = c.args.s in
    (session-passed scheme_of s.catalogue s.wanted s.key (agrees)).admitted in
    admitted

pub overflow_mul-s : goal.overflow_mul-s
overflow_mul-s c = let agrees : foremost (own_faults scheme_of c.args.s) ≡ accepted =
    sym c.session_verdict.ensures ∙ c.in_ok-session_verdict.was in
    let admitted : Admitted c.args.s.catalogue =
    let s = c.args.s in
    (session-passed scheme_of s.catalogue s.wanted s.key (agrees)).admitted in
    let s = c.args.s in
    omega (arith, (sizes-small s.catalogue c.sizes_of-sizes.result (admitted) c.sizes_of-sizes.ensures).slots)

pub returns-then-answers-s : goal.returns-then-answers-s
unfolding recover_verdict
returns-then-answers-s c = let agrees : foremost (own_faults scheme_of c.args.s) ≡ accepted =
    sym c.session_verdict.ensures ∙ c.in_ok-session_verdict.was in
    after_first_lem _ _ refl refl accepted _ (sym (agrees)) (rw (← c.sizes_of-sizes.ensures, lt-ltb _ _ c.if-answers-s.true))

pub message_length-requires : goal.message_length-requires
message_length-requires c = let agrees : foremost (own_faults scheme_of c.args.s) ≡ accepted =
    sym c.session_verdict.ensures ∙ c.in_ok-session_verdict.was in
    let admitted : Admitted c.args.s.catalogue =
    let s = c.args.s in
    (session-passed scheme_of s.catalogue s.wanted s.key (agrees)).admitted in
    admitted

pub returns-then-message-message_length : goal.returns-then-message-message_length
unfolding recover_verdict
returns-then-message-message_length c = let agrees : foremost (own_faults scheme_of c.args.s) ≡ accepted =
    sym c.session_verdict.ensures ∙ c.in_ok-session_verdict.was in
    after_first_lem _ _ refl refl accepted _ (sym (agrees))
    (rw (← c.message_length.ensures, ← c.sizes_of-sizes.ensures, le-ltb _ _ c.if-answers-s.false, lt-ltb _ _ c.if-message-message_length.true))

pub held-requires : goal.held-requires
held-requires c = let agrees : foremost (own_faults scheme_of c.args.s) ≡ accepted =
    sym c.session_verdict.ensures ∙ c.in_ok-session_verdict.was in
    let admitted : Admitted c.args.s.catalogue =
    let s = c.args.s in
    (session-passed scheme_of s.catalogue s.wanted s.key (agrees)).admitted in
    let s = c.args.s in
    (sizes-small s.catalogue c.sizes_of-sizes.result (admitted) c.sizes_of-sizes.ensures).key

pub missing_verdict-requires : goal.missing_verdict-requires
missing_verdict-requires c = let agrees : foremost (own_faults scheme_of c.args.s) ≡ accepted =
    sym c.session_verdict.ensures ∙ c.in_ok-session_verdict.was in
    let s = c.args.s in
    let long = key-places s _ c.well_formed.0 in
    let sizes = c.sizes_of-sizes in
    let holds = session-passed scheme_of s.catalogue s.wanted s.key (agrees) in
    let valid = key-valid s.catalogue s.key long c.sizes_of-sizes.result holds.admitted c.sizes_of-sizes.ensures holds.good in
    let few = (sizes-small s.catalogue c.sizes_of-sizes.result holds.admitted c.sizes_of-sizes.ensures).servers in
    let held = c.held.ensures in
    record {
      checked = record {
        admitted = rw held.catalogue holds.admitted;
        query_value = rw (held.catalogue, held.query) (ap (λ (z : Sizes). z.query) c.sizes_of-sizes.ensures);
        wanted_lt_messages = rw (held.catalogue, held.wanted) holds.inside;
        valid = rw (held.catalogue, held.key) valid;
      };
      servers_bound = rw held.catalogue (few);
    }

pub returns : goal.returns
unfolding recover_verdict
returns c = let agrees : foremost (own_faults scheme_of c.args.s) ≡ accepted =
    sym c.session_verdict.ensures ∙ c.in_ok-session_verdict.was in
    let slots = rw c.sizes_of-sizes.ensures at c.if-answers-s.false in
    let roomy = rw c.message_length.ensures at c.if-message-message_length.false in
    after_first_lem _ _ refl refl accepted _ (sym (agrees))
    (rw (le-ltb _ _ slots, le-ltb _ _ roomy) (let held = c.held.ensures in
    rw (held.catalogue, held.wanted, held.key, held.issued, held.taken, held.meters, c.sizes_of-sizes.ensures) at c.missing_verdict.ensures))
