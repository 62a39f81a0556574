-- `group_of` meets its contract: a set's ones are its messages, and the table has the first rows.
use Rattle.even_recover.specs.Rows.{group_of}
use Rattle.even_recover.proofs.group_of.Goals as goal

pub returns : goal.returns
unfolding group_of
returns c = rw c.rows_of-count.ensures
