-- `text_lines::is_numeral` meets its contract: each test is a part of the rule.
use Rattle.std.proofs.Common.{arith}
use Rattle.text_lines.specs.Lines.{is_numeral}
use Rattle.text_lines.proofs.Begins.{starts-zero}
use Rattle.text_lines.proofs.is_numeral.Goals as goal

pub returns-then-count-le1 : goal.returns-then-count-le1
unfolding is_numeral
returns-then-count-le1 c = grind arith

pub returns-else-count-le1 : goal.returns-else-count-le1
unfolding is_numeral
returns-else-count-le1 c = let z = starts-zero c.args.text.now c.starts_with.ensures.value in grind arith

pub returns-else-count-most : goal.returns-else-count-most
unfolding is_numeral
returns-else-count-most c = grind arith
