-- `catalogue_text::named::sum_line` meets its contract: past the end of the text nothing begins.
use native.Mathlib.Omega.{arith}
use lib.ListN.{drop_of_length-le}
use Rattle.text_lines.specs.Lines.{begins}
use Rattle.catalogue_text.specs.Parsing.{sum_line}
use Rattle.catalogue_text.proofs.named.sum_line.Goals as goal

pub returns-then-text-at : goal.returns-then-text-at
unfolding sum_line begins
returns-then-text-at c = let a = c.args in simp (drop_of_length-le a.text.now {i = a.at} (omega arith))
