-- `even_ranks::takings` meets its contract: after i turns the entries from i on are still to be written.
use mathlib.Core.Path.{◌≡◌, sym, ap, ◌∙◌}
use mathlib.Core.List.{List, ◌∷◌, ◌++◌, append-nil}
use Prim.Native.Nat.{ℕ, ◌+◌}
use native.Mathlib.Omega.{arith}
use lib.ListN.{take}
use lib.Seq.{take_all}
use Rattle.lists.proofs.Puts.{write-more}
use Rattle.even_ranks.proofs.Steps.{taken_from, table-start, table_more, table_done}
use Rattle.even_ranks.proofs.takings.Goals as goal

pub loop-i-init : goal.loop-i-init
loop-i-init c = table-start c.args.n c.args.wanted c.args.totals.now

pub loop-i-preserved : goal.loop-i-preserved
loop-i-preserved c = let a = c.args in
    let i = c.loop-i.i in
    write-more i c.taken_before.result c.loop-i.entry-items (taken_from a.n a.wanted a.totals.now (i + 1)) (omega arith)
    ∙ ap (λ (x : ℕ). take i c.loop-i.entry-items ++ (x ∷ taken_from a.n a.wanted a.totals.now (i + 1))) c.taken_before.ensures
    ∙ ap (λ (l : List ℕ). take i c.loop-i.entry-items ++ l) (sym (table_more a.n a.wanted i a.totals.now (omega arith))) ∙ c.loop-i.invariant

pub returns : goal.returns
returns c = let a = c.args in
    let table = c.loop-i.entry-items in
    let all : c.loop-i.i ≡ 64 = omega arith in
    sym (ap (λ (i : ℕ). take i table ++ taken_from a.n a.wanted a.totals.now i) all
    ∙ ap (λ (l : List ℕ). take 64 table ++ l) (table_done a.n a.wanted a.totals.now)
    ∙ append-nil (take 64 table)
    ∙ take_all 64 table (omega arith))
    ∙ c.loop-i.invariant
