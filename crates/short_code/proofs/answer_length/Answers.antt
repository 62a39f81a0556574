-- `short_code::answer_length` meets its contract: the row of zeros is the one whose digits are all below 1.
use Rattle.std.proofs.Common.{rules}
use Rattle.short_scheme.specs.Short.{short_answer_length}
use Rattle.short_code.proofs.answer_length.Goals as goal

pub returns-then-all_below : goal.returns-then-all_below
unfolding short_answer_length
returns-then-all_below c = search rules

pub returns : goal.returns
unfolding short_answer_length
returns c = search rules
