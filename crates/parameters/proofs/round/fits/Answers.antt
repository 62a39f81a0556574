-- `parameters::round::fits` meets its contract: the table tells the bounds.
use Rattle.std.proofs.Common.{◌∙◌}
use Rattle.parameters.proofs.Table.{round-fits}
use Rattle.parameters.proofs.round.fits.Goals as goal

pub returns : goal.returns
returns c = c.table_fits.ensures ∙ round-fits c.args.n c.args.k c.args.s
