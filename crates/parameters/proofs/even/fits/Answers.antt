-- `parameters::even::fits` meets its contract: the table tells the bounds.
use Rattle.std.proofs.Common.{◌∙◌}
use Rattle.parameters.proofs.Table.{even-fits}
use Rattle.parameters.proofs.even.fits.Goals as goal

pub returns : goal.returns
returns c = c.table_fits.ensures ∙ even-fits c.args.n c.args.k c.args.s
