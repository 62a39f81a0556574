-- `short_rows::answering::Messages::gather` meets its contract: what is gathered so far, with what the digits left will name, gives the whole.
use mathlib.Core.Path.{sym, ap, ◌∙◌}
use mathlib.Core.List.{List}
use Prim.Native.Nat.{ℕ, ◌+◌, ◌*◌}
use native.Mathlib.Omega.{arith}
use lib.ListN.{drop_of_length-le}
use Rattle.symbol.specs.Operations.{sum_of}
use Rattle.short_scheme.specs.Short.{named}
use Rattle.short_rows.specs.Steps.{gathered}
use Rattle.short_rows.proofs.Gathering.{gather-more}
use Rattle.short_rows.proofs.answering.Messages.gather.Goals as goal

pub loop-p-preserved : goal.loop-p-preserved
loop-p-preserved c =
    let a = c.args in
    gather-more (sum_of a.self.now.op) a.self.now.stride a.self.now.size a.store.now a.self.now.first c.loop-p.p a.row.now c.loop-p.begun c.loop-p.out (omega arith)
    c.gather_digit-begun.ensures.value c.gather_digit-begun.ensures.out_after c.loop-p.invariant

pub returns : goal.returns
unfolding gathered named
returns c =
    let a = c.args in
    let p = c.loop-p.p in
    ap (λ (l : List ℕ). gathered (sum_of a.self.now.op) c.loop-p.begun c.loop-p.out (named (a.self.now.first + p * a.self.now.stride) a.self.now.stride a.self.now.size a.store.now l))
    (sym (drop_of_length-le a.row.now {i = p} (omega arith)))
    ∙ c.loop-p.invariant
