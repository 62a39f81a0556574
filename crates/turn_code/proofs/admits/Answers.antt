-- `turn_code::admits` meets its contract: it makes the two tests of admission in order.
use Rattle.std.proofs.Common.{rules}
use Rattle.turn_code.specs.Turn.{turn_admits}
use Rattle.turn_code.proofs.admits.Goals as goal

pub returns-then-query-k : goal.returns-then-query-k
unfolding turn_admits
returns-then-query-k c = search rules

pub returns-else-query-k : goal.returns-else-query-k
unfolding turn_admits
returns-else-query-k c = search rules
