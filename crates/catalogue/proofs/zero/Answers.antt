-- `catalogue::zero` meets its contract: each date is three zeros, and there are no lengths.

use Rattle.catalogue.proofs.zero.Goals as goal

pub returns : goal.returns
returns c = rw (c.none.ensures, c.none-2.ensures, c.none-3.ensures)
