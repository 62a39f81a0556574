-- `session_checks::keyed::sizes_of` meets its contract: an admitted catalogue is measured.
use Rattle.std.proofs.Common.{rules}
use Rattle.codes.proofs.Measured.{measured-admitted}
use Rattle.session_checks.proofs.keyed.sizes_of.Goals as goal

pub unwrap-requires : goal.unwrap-requires
unwrap-requires c = search (rules, measured-admitted c.args.c c.requires)

pub returns : goal.returns
returns c = search (rules, measured-admitted c.args.c c.requires)
