-- `short_code::insert` meets its contract: after p turns the first p digits of the query are written.
use mathlib.Core.Path.{◌≡◌, ap₂, ◌∙◌}
use mathlib.Core.List.{List, ◌++◌}
use Prim.Native.Nat.{ℕ, ◌+◌}
use native.Mathlib.Omega.{arith}
use lib.ListN.{length, take, drop, set}
use lib.Seq.{take_all}
use Rattle.lists.specs.Inserts.{insert_at}
use Rattle.lists.proofs.Inserts.{insert-length}
use Rattle.lists.proofs.Puts.{copy_more}
use Rattle.short_code.proofs.insert.Goals as goal
use Rattle.short_code.proofs.insert.Goals.{After-query_digit}

more : (c : After-query_digit) → let a = c.args in
    set c.loop-p.out c.loop-p.p c.query_digit.result ≡ take (c.loop-p.p + 1) (insert_at a.wanted a.digit a.key.now) ++ drop (c.loop-p.p + 1) a.out.now
more c = let a = c.args in
    let q = insert_at a.wanted a.digit a.key.now in
    let l = insert-length a.wanted a.digit a.key.now in
    ap₂ (λ (l : List ℕ) (d : ℕ). set l c.loop-p.p d) c.loop-p.invariant c.query_digit.ensures
    ∙ copy_more q a.out.now c.loop-p.p (omega arith) (omega arith)

pub loop-p-preserved : goal.loop-p-preserved
loop-p-preserved c = more (goal.at.loop-p-preserved c).After-query_digit

pub returns-2 : goal.returns-2
returns-2 c = let a = c.args in
    let q = insert_at a.wanted a.digit a.key.now in
    let l = insert-length a.wanted a.digit a.key.now in
    let e : c.loop-p.p + 1 ≡ length q = omega arith in
    more (goal.at.returns-2 c).After-query_digit
    ∙ ap₂ (λ (x : List ℕ) (n : ℕ). x ++ drop n a.out.now) (take_all (c.loop-p.p + 1) q (omega arith)) e
