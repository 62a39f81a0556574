-- `even_answer::answer` meets its contract: before each turn the answers to the rows of the sets from its own on are still to be written.
use mathlib.Core.Path.{◌≡◌}
use Prim.Native.Nat.{◌+◌}
use lib.ListN.{length, drop}
use Rattle.lists.proofs.Writing.{Pending}
use Rattle.symbol.specs.Operations.{sum_of}
use Rattle.even_scheme.specs.Even.{row_answers, even_answer}
use Rattle.even_layout.proofs.Tables.{positions_from}
use Rattle.even_layout.proofs.RowRuns.{rows_from}
use Rattle.even_answer.proofs.answer.Given as goal

abbrev pub invariant-loop-set : goal.invariant-loop-set
invariant-loop-set l =
    (l.at + length (positions_from l.n l.k l.set-index) ≡ length l.query)
    × Pending 0 (even_answer (sum_of l.fn.op) l.n l.k l.s l.store l.query) l.initial.out l.end
    (row_answers (sum_of l.fn.op) l.n l.k l.s l.store (rows_from l.n l.k l.set-index) (drop l.at l.query)) l.out
