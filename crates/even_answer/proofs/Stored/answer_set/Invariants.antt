-- `even_answer::Stored::answer_set` meets its contract: after `row` turns the answers to the rows from there on are still to be written.
use Prim.Native.Nat.{◌-◌, ◌*◌}
use lib.ListN.{drop, replicate}
use Rattle.lists.proofs.Writing.{Pending}
use Rattle.symbol.specs.Operations.{sum_of}
use Rattle.even_scheme.specs.Even.{row_answers}
use Rattle.even_sets.specs.Sets.{set_in}
use Rattle.even_answer.proofs.Stored.answer_set.Given as goal

abbrev pub invariant-loop-row : goal.invariant-loop-row
invariant-loop-row l =
    Pending 0 (row_answers (sum_of l.self.op) l.self.servers l.self.messages l.self.symbol l.self.store.now (replicate l.rows (set_in l.self.messages l.set)) l.numbers) l.initial.out (l.row * l.self.symbol)
    (row_answers (sum_of l.self.op) l.self.servers l.self.messages l.self.symbol l.self.store.now (replicate (l.rows - l.row) (set_in l.self.messages l.set)) (drop (l.row * l.size) l.numbers)) l.out
