-- `number_lists::scan_some` meets its contract: after `count` numbers, those that are left decide.
use mathlib.Core.Path.{sym, ◌∙◌}
use native.Mathlib.Omega.{arith}
use borrow.Author.Tests.{eq-eqb, ne_eqb}
use Rattle.number_lists.proofs.Reading.{numeral-within, numeral-past}
use Rattle.number_lists.proofs.Scanning.{scan-none, scan-last, scan-other, scan-past, scan-more}
use Rattle.number_lists.proofs.scan_some.Goals as goal

pub returns-in_err-number : goal.returns-in_err-number
returns-in_err-number c =
    c.from_residual.ensures
    ∙ sym (c.loop-at.invariant.1 ∙ scan-none c.args.text.now c.loop-at.at c.loop-at.count c.loop-at.bytes (sym c.number_at.ensures ∙ c.in_err-number.was))

pub returns-then-ends : goal.returns-then-ends
returns-then-ends c =
    let here = sym c.number_at.ensures ∙ c.in_ok-number.was in
    let over = sym c.ends.ensures ∙ c.if-ends.true in
    sym (c.loop-at.invariant.1 ∙ scan-last c.args.text.now c.loop-at.at c.loop-at.count c.loop-at.bytes _ _ (omega arith) here over)

pub returns-then-text-next : goal.returns-then-text-next
returns-then-text-next c =
    let here = sym c.number_at.ensures ∙ c.in_ok-number.was in
    sym (c.loop-at.invariant.1 ∙ scan-past c.args.text.now c.loop-at.at c.loop-at.count c.loop-at.bytes _ _ (omega arith) here c.if-text-next.true)

pub returns-then-text-next-ne32 : goal.returns-then-text-next-ne32
returns-then-text-next-ne32 c =
    let here = sym c.number_at.ensures ∙ c.in_ok-number.was in
    let on = sym c.ends.ensures ∙ c.if-ends.false in
    let other = ne_eqb _ _ c.if-text-next-ne32.true in
    sym (c.loop-at.invariant.1 ∙ scan-other c.args.text.now c.loop-at.at c.loop-at.count c.loop-at.bytes _ _ (omega arith) here on other)

pub loop-at-smaller : goal.loop-at-smaller
loop-at-smaller c = let w = numeral-within c.args.text.now c.loop-at.at _ _ (sym c.number_at.ensures ∙ c.in_ok-number.was) in omega arith

pub loop-at-preserved : goal.loop-at-preserved
loop-at-preserved c =
    let text = c.args.text.now in
    let here = sym c.number_at.ensures ∙ c.in_ok-number.was in
    let w = numeral-within text c.loop-at.at _ _ here in
    let on = sym c.ends.ensures ∙ c.if-ends.false in
    let space = eq-eqb _ _ c.if-text-next-ne32.false in
    (omega arith, c.loop-at.invariant.1 ∙ scan-more text c.loop-at.at c.loop-at.count c.loop-at.bytes _ _ (omega arith) here on space)

pub returns : goal.returns
returns c =
    let text = c.args.text.now in
    sym (c.loop-at.invariant.1 ∙ scan-none text c.loop-at.at c.loop-at.count c.loop-at.bytes (numeral-past text c.loop-at.at (omega arith)))
