-- `number_lists::scan` meets its contract: an empty list, or one of one or more numbers.
use mathlib.Core.Path.{sym, ◌∙◌}
use Rattle.number_lists.specs.NumberLists.{numbers_at}
use Rattle.lists.specs.Below.{all_below}
use Rattle.number_lists.proofs.scan.Goals as goal

pub returns-then-ends : goal.returns-then-ends
unfolding numbers_at all_below
returns-then-ends c = simp (sym c.ends.ensures ∙ c.if-ends.true)

pub returns : goal.returns
unfolding numbers_at
returns c = c.scan_some.ensures ∙ simp (sym c.ends.ensures ∙ c.if-ends.false)
