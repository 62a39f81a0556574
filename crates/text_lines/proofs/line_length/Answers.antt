-- `text_lines::line_length` meets its contract: a name, the digits and byte 10, of which the digits are at most 20.
use native.Mathlib.Omega.{arith}
use Rattle.text_lines.proofs.Decimal.{length_most}
use Rattle.text_lines.proofs.line_length.Goals as goal

pub overflow_add-result : goal.overflow_add-result
overflow_add-result c = let few = length_most 19 c.args.n (omega arith) in omega (arith, c.well_formed, c.width.ensures)

pub overflow_add-result-2 : goal.overflow_add-result-2
overflow_add-result-2 c = let few = length_most 19 c.args.n (omega arith) in omega (arith, c.well_formed, c.width.ensures)
