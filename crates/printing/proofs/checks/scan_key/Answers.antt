-- `printing::checks::scan_key` meets its contract: the part that is lent goes to the text's end, and past that end there is no line.
use mathlib.Core.Path.{◌∙◌}
use native.Mathlib.Omega.{arith}
use lib.ListN.{drop_of_length-le}
use Rattle.text_lines.specs.Lines.{begins}
use Rattle.text_lines.proofs.NumberLines.{begins-rest}
use Rattle.printing.specs.Input.{key_name, key_line}
use Rattle.printing.proofs.checks.scan_key.Goals as goal

pub returns-then-text-at : goal.returns-then-text-at
unfolding key_line begins
returns-then-text-at c = simp (drop_of_length-le c.args.text.now {i = c.args.at} (omega arith))

pub returns-then-not-starts : goal.returns-then-not-starts
unfolding key_line
returns-then-not-starts c = let a = c.args in simp (begins-rest key_name a.text.now a.at c.starts.ensures c.if-not-starts.true)

pub returns : goal.returns
unfolding key_line
returns c = let a = c.args in c.scan.ensures ∙ simp (begins-rest key_name a.text.now a.at c.starts.ensures c.if-not-starts.false)
