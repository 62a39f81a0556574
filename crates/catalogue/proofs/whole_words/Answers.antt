-- `catalogue::whole_words` meets its contract: the test of an even length is the definition's.

use Rattle.catalogue.proofs.whole_words.Goals as goal

pub returns-in-Addition : goal.returns-in-Addition
returns-in-Addition c = rw c.in-Addition.is
