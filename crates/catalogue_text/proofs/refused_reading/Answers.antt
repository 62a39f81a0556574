-- `catalogue_text::refused_reading` meets its contract: it holds the catalogue of zeros.

use Rattle.catalogue_text.proofs.refused_reading.Goals as goal

pub returns : goal.returns
returns c = rw c.zero.ensures
