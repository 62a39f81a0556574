-- `symbol::copy` meets its contract: after i turns the first i bytes are those of `src`.
use Rattle.std.proofs.Common.{ℕ, List, ap, get_or, set, ◌∙◌, arith}
use Rattle.lists.proofs.Puts.{copy_more}
use Rattle.symbol.proofs.copy.Goals as goal

pub loop-i-preserved : goal.loop-i-preserved
loop-i-preserved c = let d = c.args.dst.now in
    let s = c.args.src.now in
    let i = c.loop-i.i in
    ap (λ (l : List ℕ). set l i (get_or s i 0)) c.loop-i.invariant ∙ copy_more s d i (omega arith) (omega arith)
