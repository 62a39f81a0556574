-- `answer_unit::verdicts::access_verdict` meets its contract: its tests are the links of the chain, in their order.
use mathlib.Core.Path.{sym, ◌∙◌}
use borrow.Author.Tests.{lt-ltb, le-ltb, eq-eqb, ne_eqb}
use Rattle.refusal.proofs.Passed.{passed}
use Rattle.answer_unit.proofs.Chains.{set-up-passed, short-fits, access-chain, access-own}
use Rattle.answer_unit.proofs.verdicts.access_verdict.Goals as goal

pub returns-then-register-gt5 : goal.returns-then-register-gt5
returns-then-register-gt5 c = let a = c.args in rw (access-chain a.unit a.register a.stored, lt-ltb 5 a.register c.if-register-gt5.true)

pub returns-in_err-set_up_verdict : goal.returns-in_err-set_up_verdict
returns-in_err-set_up_verdict c = let a = c.args in
    passed _ _ c.from_residual.ensures.1 ∙ rw (
      access-chain a.unit a.register a.stored,
      le-ltb 5 a.register c.if-register-gt5.false,
      sym c.set_up_verdict.ensures ∙ c.in_err-set_up_verdict.was,
    )

pub sizes-sizes-requires : goal.sizes-sizes-requires
sizes-sizes-requires c = let u = c.args.unit in
    let accepted = sym c.set_up_verdict.ensures ∙ c.in_ok-set_up_verdict.was in
    short-fits u.catalogue u.server (set-up-passed u.catalogue u.server accepted)

pub returns-then-stored-sizes : goal.returns-then-stored-sizes
returns-then-stored-sizes c = let a = c.args in
    let accepted = sym c.set_up_verdict.ensures ∙ c.in_ok-set_up_verdict.was in
    let known = c.if-register-gt5.false in
    let z = c.sizes-sizes in
    rw (
      access-own a.unit a.register a.stored known accepted c.sizes-sizes.result c.sizes-sizes.ensures,
      ne_eqb a.stored c.sizes-sizes.result.store c.if-stored-sizes.true,
    )

pub returns-then-unit-gt32 : goal.returns-then-unit-gt32
returns-then-unit-gt32 c = let a = c.args in
    let accepted = sym c.set_up_verdict.ensures ∙ c.in_ok-set_up_verdict.was in
    let known = c.if-register-gt5.false in
    let z = c.sizes-sizes in
    rw (
      access-own a.unit a.register a.stored known accepted c.sizes-sizes.result c.sizes-sizes.ensures,
      eq-eqb a.stored c.sizes-sizes.result.store c.if-stored-sizes.false,
      lt-ltb 32 a.unit.held c.if-unit-gt32.true,
    )

pub returns-then-c-unit : goal.returns-then-c-unit
returns-then-c-unit c = let a = c.args in
    let accepted = sym c.set_up_verdict.ensures ∙ c.in_ok-set_up_verdict.was in
    let known = c.if-register-gt5.false in
    let z = c.sizes-sizes in
    rw (
      access-own a.unit a.register a.stored known accepted c.sizes-sizes.result c.sizes-sizes.ensures,
      eq-eqb a.stored c.sizes-sizes.result.store c.if-stored-sizes.false,
      le-ltb 32 a.unit.held c.if-unit-gt32.false,
      lt-ltb a.unit.catalogue.symbol a.unit.waiting c.if-c-unit.true,
    )

pub returns : goal.returns
returns c = let a = c.args in
    let accepted = sym c.set_up_verdict.ensures ∙ c.in_ok-set_up_verdict.was in
    let known = c.if-register-gt5.false in
    let z = c.sizes-sizes in
    rw (
      access-own a.unit a.register a.stored known accepted c.sizes-sizes.result c.sizes-sizes.ensures,
      eq-eqb a.stored c.sizes-sizes.result.store c.if-stored-sizes.false,
      le-ltb 32 a.unit.held (c.if-unit-gt32.false),
      le-ltb a.unit.catalogue.symbol a.unit.waiting c.if-c-unit.false,
    )
