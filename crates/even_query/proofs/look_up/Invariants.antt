-- `even_query::look_up` meets its contract: after i turns the entries from i on are still to be written.
use Rattle.lists.proofs.Writing.{Pending}
use Rattle.even_query.specs.Query.{entries}
use Rattle.even_query.proofs.Entries.{entries_from}
use Rattle.even_query.proofs.look_up.Given as goal

abbrev pub invariant-loop-i : goal.invariant-loop-i
invariant-loop-i l =
    Pending 0 (entries l.symbols l.key l.messages l.places) l.initial.out l.i (entries_from l.symbols l.key l.messages l.places l.i) l.out
