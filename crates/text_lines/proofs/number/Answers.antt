-- `text_lines::number` meets its contract: the tests are the rule's, and the digits that are lent have the value.
use mathlib.Core.Path.{◌≡◌, sym, ◌∙◌}
use Prim.Native.Nat.{◌≤◌}
use native.Mathlib.Omega.{arith}
use borrow.Author.Tests.{leb-true, eq-eqb, ne_eqb}
use lib.Dec.{leb}
use lib.ListN.{length, take, get_or-eq_default}
use lib.Seq.{length-take-le}
use Rattle.lists.proofs.Both.{both_true}
use Rattle.text_lines.specs.Lines.{is_numeral, number_at}
use Rattle.text_lines.proofs.DigitTexts.{count-first}
use Rattle.text_lines.proofs.number.Goals as goal

pub returns-then-not-is_numeral : goal.returns-then-not-is_numeral
unfolding number_at
returns-then-not-is_numeral c = simp (sym c.digits-count.ensures.value, sym c.is_numeral.ensures ∙ c.if-not-is_numeral.true)

pub returns-then-text-count : goal.returns-then-text-count
unfolding number_at
returns-then-text-count c = let text = c.args.text.now in
    let rule = sym c.is_numeral.ensures ∙ c.if-not-is_numeral.false in
    simp (sym c.digits-count.ensures.value, rule, get_or-eq_default text 0 {n = c.digits-count.result} (omega arith))

pub returns-then-text-count-ne10 : goal.returns-then-text-count-ne10
unfolding number_at
returns-then-text-count-ne10 c = let rule = sym c.is_numeral.ensures ∙ c.if-not-is_numeral.false in
    simp (sym c.digits-count.ensures.value, rule, ne_eqb _ _ c.if-text-count-ne10.true)

pub value-n-requires : goal.value-n-requires
unfolding is_numeral
value-n-requires c =
    let text = c.args.text.now in
    let count = c.digits-count.result in
    let long : length (take count text) ≡ count = length-take-le count text c.digits-count.ensures.upper_bound in
    let rule = sym c.is_numeral.ensures ∙ c.if-not-is_numeral.false in
    let few : count ≤ c.args.most = leb-true count c.args.most (both_true _ _ (both_true (leb 1 count) _ rule).1).0 in
    record {
      text_len_bound = omega arith;
      text_value = count-first text count c.digits-count.ensures.value;
    }

pub returns : goal.returns
unfolding number_at
returns c = let rule = sym c.is_numeral.ensures ∙ c.if-not-is_numeral.false in
    simp (sym c.digits-count.ensures.value, rule, eq-eqb _ _ c.if-text-count-ne10.false, c.value-n.ensures)
