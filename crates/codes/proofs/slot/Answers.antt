-- `codes::slot` meets its contract: an admitted catalogue is measured, and what is measured are its scheme's sizes.
use Rattle.std.proofs.Common.{rules}
use Rattle.codes.proofs.Measured.{measured-admitted}
use Rattle.codes.proofs.slot.Goals as goal

pub unwrap-sizes-requires : goal.unwrap-sizes-requires
unwrap-sizes-requires c = search (rules, measured-admitted c.args.c c.requires)

pub returns : goal.returns
returns c = search (rules, measured-admitted c.args.c c.requires)
