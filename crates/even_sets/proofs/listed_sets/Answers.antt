-- `even_sets::listed_sets` meets its contract: the table is the sets of each number of messages, by one computed test.
use mathlib.Core.Path.{refl}
use Rattle.lists.specs.Sums.{bit}
use Rattle.even_places.specs.Rule.{byte_of, all_sets}
use Rattle.even_sets.specs.Sets.{listed_sets, listed_rows}
use Rattle.even_sets.proofs.listed_sets.Goals as goal

pub returns : goal.returns
unfolding listed_rows listed_sets all_sets byte_of bit
returns c = refl
