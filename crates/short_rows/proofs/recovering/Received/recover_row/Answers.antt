-- `short_rows::recovering::Received::recover_row` meets its contract: after each turn, what the symbols left will add to the message gives the whole.
use mathlib.Core.Path.{sym, ap, ◌∙◌}
use Prim.Native.Nat.{ℕ, ◌-◌, ◌*◌}
use native.Mathlib.Omega.{arith}
use lib.ListN.{get_or}
use Rattle.lists.specs.Parts.{cut, lay}
use Rattle.symbol.specs.Sum.{less}
use Rattle.symbol.specs.Operations.{sum_of}
use Rattle.symbol.proofs.Operations.{group_of}
use Rattle.short_rows.specs.Steps.{from_places}
use Rattle.short_rows.proofs.Places.{from-length, write_done, write-more}
use Rattle.short_rows.proofs.recovering.Received.recover_row.Goals as goal

pub loop-d-preserved : goal.loop-d-preserved
loop-d-preserved c = let a = c.args in
    let d = c.loop-d.d in
    let f = from_places (sum_of a.self.now.op) a.self.now.servers a.self.now.size a.self.now.none a.empty a.starts.now a.self.now.answers.now in
    let long = from-length (sum_of a.self.now.op) a.self.now.servers a.self.now.size a.self.now.none (group_of a.self.now.op a.self.now.size) a.starts.now a.self.now.answers.now c.requires.placed
    c.requires.t_lt_n a.empty d in
    let written = c.recover_symbol.ensures
    ∙ ap (λ (i : ℕ). lay ((d - 1) * a.self.now.size) (less (sum_of a.self.now.op) a.empty (cut (get_or a.starts.now i 0) a.self.now.size a.self.now.answers.now)
    (cut (get_or a.starts.now a.self.now.none 0) a.self.now.size a.self.now.answers.now)) c.loop-d.message) c.add_modulo-server.ensures in
    write-more f a.self.now.servers a.self.now.size d c.loop-d.message (omega arith) (omega arith) long written c.loop-d.invariant

pub returns : goal.returns
returns c = let a = c.args in
    let f = from_places (sum_of a.self.now.op) a.self.now.servers a.self.now.size a.self.now.none a.empty a.starts.now a.self.now.answers.now in
    sym (write_done f a.self.now.servers a.self.now.size c.loop-d.d c.loop-d.message (omega arith)) ∙ c.loop-d.invariant
