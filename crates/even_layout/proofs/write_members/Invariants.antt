-- `even_layout::write_members` meets its contract: after p turns the set's messages from p on are still to be written.
use Rattle.lists.proofs.Writing.{Pending}
use Rattle.even_places.specs.Rule.{members}
use Rattle.even_sets.specs.Sets.{set_in}
use Rattle.even_layout.proofs.Bytes.{members_from}
use Rattle.even_layout.proofs.write_members.Given as goal

abbrev pub invariant-loop-p : goal.invariant-loop-p
invariant-loop-p l = Pending l.at (members 0 (set_in l.k l.set)) l.initial.out l.end (members_from l.k l.p l.rest) l.out
