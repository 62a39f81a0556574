-- `even_query::Walk::write_set` meets its contract: after i turns the places of the rows from i on are still to be written.
use Rattle.lists.specs.Below.{Below}
use Rattle.lists.proofs.Writing.{Pending}
use Rattle.even_sets.specs.Sets.{set_in}
use Rattle.even_ranks.specs.Walk.{set_places}
use Rattle.even_query.proofs.Rows.{rows_from}
use Rattle.even_query.proofs.Walk.write_set.Given as goal

abbrev pub invariant-loop-i : goal.invariant-loop-i
invariant-loop-i l =
    Below 256 (rows_from l.self.servers l.self.wanted l.self.server l.self.totals.now l.ranks (set_in l.self.messages l.set) l.i)
    × Pending l.at (set_places l.self.servers l.self.wanted l.self.server l.self.totals.now l.ranks (set_in l.self.messages l.set)) l.initial.out l.end (rows_from l.self.servers l.self.wanted l.self.server l.self.totals.now l.ranks (set_in l.self.messages l.set) l.i) l.out
