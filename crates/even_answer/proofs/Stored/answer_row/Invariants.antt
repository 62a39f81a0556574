-- `even_answer::Stored::answer_row` meets its contract: after p turns the symbols of the set's messages from p on are still to be combined.
use mathlib.Core.Path.{◌≡◌}
use mathlib.Core.List.{zip_with}
use Prim.Native.Nat.{◌+◌}
use lib.Count.{ones as count}
use lib.Dec.{eqb}
use lib.ListN.{length, drop}
use Rattle.symbol.specs.Operations.{sum_of}
use Rattle.even_scheme.specs.Even.{symbol_of, row_answer}
use Rattle.even_sets.specs.Sets.{set_in}
use Rattle.even_layout.proofs.Bytes.{members_from}
use Rattle.even_answer.proofs.RowLaws.{resumed}
use Rattle.even_answer.proofs.Stored.answer_row.Given as goal

abbrev pub invariant-loop-p : goal.invariant-loop-p
invariant-loop-p l =
    (length l.out ≡ l.self.symbol)
    × (l.taken + length (members_from l.self.messages l.p l.rest) ≡ count l.set)
    × (resumed (sum_of l.self.op) (eqb l.taken 0) l.self.symbol l.out (zip_with (symbol_of (sum_of l.self.op) l.self.servers l.self.messages l.self.symbol l.self.store.now) (members_from l.self.messages l.p l.rest) (drop l.taken l.numbers))
    ≡ row_answer (sum_of l.self.op) l.self.servers l.self.messages l.self.symbol l.self.store.now (set_in l.self.messages l.set) l.numbers)
