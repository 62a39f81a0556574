-- `short_code::admits` meets its contract: it makes the three tests of the query set in order.
use Rattle.short_scheme.specs.Short.{short_admits}
use Rattle.std.proofs.Common.{rules}
use Rattle.short_code.proofs.admits.Goals as goal

pub returns-then-all_below : goal.returns-then-all_below
unfolding short_admits
returns-then-all_below c = search rules

pub returns-else-all_below : goal.returns-else-all_below
unfolding short_admits
returns-else-all_below c = search rules
