-- `even_admission::all_fresh` meets its contract: before each turn the numbers that are left decide, with the marks so far.
use mathlib.Core.Path.{◌≡◌}
use mathlib.Core.Bool.{◌&&◌}
use mathlib.Core.List.{zip_with}
use lib.ListN.{length}
use Rattle.lists.specs.Below.{all_below, Below}
use Rattle.lists.specs.Distinct.{distinct}
use Rattle.even_admission.specs.Cells.{cell_of}
use Rattle.even_admission.proofs.Fresh.{fresh}
use Rattle.even_admission.proofs.all_fresh.Given as goal

abbrev pub invariant-loop-message : goal.invariant-loop-message
invariant-loop-message l =
    (length l.message-iterator.a.rest.now ≡ length l.message-iterator.b.rest.now) × Below 8 l.message-iterator.a.rest.now × (length l.marks ≡ 2048)
    × (fresh l.size l.marks l.message-iterator.a.rest.now l.message-iterator.b.rest.now
    ≡ (all_below l.size l.numbers && distinct (zip_with (cell_of l.size) l.messages l.numbers)))
