-- `even_layout::positions` meets its contract: before each turn the positions of the sets from its own on are still to be written.
use Rattle.lists.proofs.Writing.{Pending}
use Rattle.even_places.specs.Rule.{positions}
use Rattle.even_layout.proofs.Tables.{positions_from}
use Rattle.even_layout.proofs.positions.Given as goal

abbrev pub invariant-loop-set : goal.invariant-loop-set
invariant-loop-set l = Pending 0 (positions l.n l.k) l.initial.out l.at (positions_from l.n l.k l.set-index) l.out
