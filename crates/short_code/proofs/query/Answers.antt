-- `short_code::query` meets its contract: the balancing digit goes to the wanted position.
use Rattle.std.proofs.Common.{rules}
use Rattle.short_scheme.specs.Short.{short_query}
use Rattle.short_code.proofs.query.Goals as goal

pub returns : goal.returns
unfolding short_query
returns c = search rules
