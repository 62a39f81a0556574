-- `symbol::exclusive_or` meets its contract: after i turns `dst` is combined with the first i bytes of `src`.
use Rattle.std.proofs.Common.{ℕ, List, bit_xor, get_or, set, sym, ap, ◌∙◌, add-one, arith}
use Rattle.symbol.proofs.XorBytes.{xor-nil, xor-more}
use Rattle.symbol.proofs.exclusive_or.Goals as goal

pub loop-i-init : goal.loop-i-init
loop-i-init c = sym (xor-nil _)

pub loop-i-preserved : goal.loop-i-preserved
loop-i-preserved c = let d = c.args.dst.now in
    let s = c.args.src.now in
    let i = c.loop-i.i in
    rw add-one (ap (λ (l : List ℕ). set l i (bit_xor (get_or l i 0) (get_or s i 0))) c.loop-i.invariant ∙ xor-more d s i (omega arith) (omega arith))
