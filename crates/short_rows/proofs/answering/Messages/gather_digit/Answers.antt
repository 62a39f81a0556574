-- `short_rows::answering::Messages::gather_digit` meets its contract: the part that it lends is the symbol that the digit names.
use mathlib.Core.Path.{sym, ap, ◌∙◌}
use mathlib.Core.Bool.{Bool, cond}
use Prim.Native.Nat.{ℕ, ◌+◌, ◌-◌, ◌*◌}
use native.Mathlib.Nat.{add-sub_cancel_left}
use native.Mathlib.Omega.{arith}
use lib.ListN.{take, drop}
use Rattle.lists.specs.Parts.{cut}
use Rattle.symbol.specs.Operations.{sum_of}
use Rattle.short_rows.proofs.Gathering.{gather_none, gather-one}
use Rattle.short_rows.proofs.answering.Messages.gather_digit.Goals as goal

pub returns-then-d-eq0 : goal.returns-then-d-eq0
returns-then-d-eq0 c =
    let a = c.args in
    let none = gather_none (sum_of a.self.now.op) 0 a.self.now.size a.store.now a.at a.d a.begun a.out.now c.if-d-eq0.true in record {
      value = none.0;
      out_after = none.1;
    }

pub returns-then-begun : goal.returns-then-begun
returns-then-begun c =
    let a = c.args in
    let start = (a.at + (a.d - 1)) * a.self.now.size in
    let x = cut start a.self.now.size a.store.now in
    let one = gather-one (sum_of a.self.now.op) 0 a.self.now.size a.store.now a.at a.d a.begun a.out.now (omega arith) in record {
      value = one.0;
      out_after = c.combine.ensures
          ∙ ap (λ (m : ℕ). (sum_of a.self.now.op).plus a.out.now (take m (drop start a.store.now))) (add-sub_cancel_left start a.self.now.size)
          ∙ ap (λ (t : Bool). cond t ((sum_of a.self.now.op).plus a.out.now x) x) (sym c.if-begun.true) ∙ one.1;
    }

pub returns : goal.returns
returns c =
    let a = c.args in
    let start = (a.at + (a.d - 1)) * a.self.now.size in
    let x = cut start a.self.now.size a.store.now in
    let one = gather-one (sum_of a.self.now.op) 0 a.self.now.size a.store.now a.at a.d a.begun a.out.now (omega arith) in record {
      value = one.0;
      out_after = c.copy.ensures
          ∙ ap (λ (m : ℕ). take m (drop start a.store.now)) (add-sub_cancel_left start a.self.now.size)
          ∙ ap (λ (t : Bool). cond t ((sum_of a.self.now.op).plus a.out.now x) x) (sym c.if-begun.false) ∙ one.1;
    }
