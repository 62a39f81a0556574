-- `catalogue_text::refused` meets its contract: it holds the catalogue of zeros.

use Rattle.catalogue_text.proofs.refused.Goals as goal

pub returns : goal.returns
returns c = rw c.zero.ensures
