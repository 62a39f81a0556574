-- `text_lines::value` meets its contract: n is the value of the digits passed, below the power of their number, and stands before the rest.
use Rattle.std.proofs.Common.{◌≡◌, ◌+◌, ◌*◌, ◌^◌, arith, get_or}
use Rattle.std.proofs.lemmas.List.{at_drop_more, at_drop_all}
use mathlib.Core.Path.{sym, ◌∙◌}
use native.Mathlib.Nat.{pow-suc}
use native.Mathlib.Numerals.{add-one}
use Rattle.lists.proofs.Each.{All-get}
use Rattle.text_lines.specs.Decimal.{value_from}
use Rattle.text_lines.proofs.DigitTexts.{digit-range, all_digits}
use Rattle.text_lines.proofs.value.Goals as goal

pub overflow_sub-n : goal.overflow_sub-n
overflow_sub-n c =
    let text = c.args.text.now in
    (digit-range (get_or text c.loop-byte.byte-index 0) (All-get 0 (all_digits text c.requires.text_value) c.loop-byte.byte-index c.loop-byte-test.true)).0

pub loop-byte-preserved : goal.loop-byte-preserved
unfolding value_from
loop-byte-preserved c =
    let text = c.args.text.now in
    let i = c.loop-byte.byte-index in
    let digit = digit-range (get_or text i 0) (All-get 0 (all_digits text c.requires.text_value) i c.loop-byte-test.true) in
    let more : 10 ^ (i + 1) ≡ 10 ^ i * 10 = simp add-one (pow-suc 10 i) in
    (omega (arith, digit.1), c.loop-byte.invariant.1 ∙ at_drop_more (value_from c.loop-byte.n) text i 0 c.loop-byte-test.true)

pub returns : goal.returns
unfolding value_from
returns c = sym (c.loop-byte.invariant.1 ∙ at_drop_all (value_from c.loop-byte.n) c.args.text.now c.loop-byte.byte-index c.loop-byte-test.false)
