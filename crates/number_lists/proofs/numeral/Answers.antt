-- `number_lists::numeral` meets its contract: the test is the rule's, and the digits that are lent have the value.
use mathlib.Core.Path.{◌≡◌, sym, ◌∙◌}
use Prim.Native.Nat.{◌≤◌}
use native.Mathlib.Omega.{arith}
use borrow.Author.Tests.{leb-true}
use lib.Dec.{leb}
use lib.ListN.{length, take}
use lib.Seq.{length-take-le}
use Rattle.lists.proofs.Both.{both_true}
use Rattle.text_lines.specs.Lines.{is_numeral}
use Rattle.text_lines.proofs.DigitTexts.{count-first}
use Rattle.number_lists.specs.NumberLists.{numeral_from}
use Rattle.number_lists.proofs.numeral.Goals as goal

pub returns-then-not-is_numeral : goal.returns-then-not-is_numeral
unfolding numeral_from
returns-then-not-is_numeral c = simp (sym c.digits-count.ensures.value, sym c.is_numeral.ensures ∙ c.if-not-is_numeral.true)

pub value-value-requires : goal.value-value-requires
unfolding is_numeral
value-value-requires c = let d = c.digits-count in
    let text = c.args.text.now in
    let long : length (take c.digits-count.result text) ≡ c.digits-count.result = length-take-le c.digits-count.result text c.digits-count.ensures.upper_bound in
    let rule = sym c.is_numeral.ensures ∙ c.if-not-is_numeral.false in
    let few : c.digits-count.result ≤ 5 = leb-true c.digits-count.result 5 (both_true _ _ (both_true (leb 1 c.digits-count.result) _ rule).1).0 in
    record {
      text_len_bound = omega arith;
      text_value = count-first text c.digits-count.result c.digits-count.ensures.value;
    }

pub returns : goal.returns
unfolding numeral_from
returns c = let rule = sym c.is_numeral.ensures ∙ c.if-not-is_numeral.false in
    simp (sym c.digits-count.ensures.value, rule, c.value-value.ensures)
