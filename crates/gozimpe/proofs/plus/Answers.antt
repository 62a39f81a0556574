-- `gozimpe::plus` meets its contract: a small number is the same with a sign.
use Rattle.gozimpe.proofs.Signed.{length-signed}
use Rattle.gozimpe.proofs.plus.Goals as goal

pub returns : goal.returns
returns c = length-signed c.args.length c.requires
