-- `text_lines::digits` meets its contract: i digits are passed, and the rest has the others.
use Rattle.std.proofs.Common.{◌≡◌, true, false, arith, get_or}
use Rattle.std.proofs.lemmas.List.{at_drop_more, at_drop_all}
use mathlib.Core.Path.{sym, ◌∙◌}
use Rattle.text_lines.specs.Decimal.{is_digit, digit_count}
use Rattle.text_lines.proofs.digits.Goals as goal

pub returns-then-not-is_ascii_digit-clause-value : goal.returns-then-not-is_ascii_digit-clause-value
unfolding digit_count
returns-then-not-is_ascii_digit-clause-value c =
    let text = c.args.text.now in
    let other : is_digit (get_or text c.loop-i.i 0) ≡ false = sym c.is_ascii_digit.ensures.value ∙ c.if-not-is_ascii_digit.true in
    let stop = rw other at (at_drop_more digit_count text c.loop-i.i 0 c.loop-i-test.true) in omega arith

pub loop-i-preserved : goal.loop-i-preserved
unfolding digit_count
loop-i-preserved c =
    let text = c.args.text.now in
    let one : is_digit (get_or text c.loop-i.i 0) ≡ true = sym c.is_ascii_digit.ensures.value ∙ c.if-not-is_ascii_digit.false in
    let more = rw one at (at_drop_more digit_count text c.loop-i.i 0 c.loop-i-test.true) in omega arith

pub returns-clause-value : goal.returns-clause-value
unfolding digit_count
returns-clause-value c = let end = at_drop_all digit_count c.args.text.now c.loop-i.i c.loop-i-test.false in omega arith
