-- `symbol::exclusive_or` meets its contract: after i turns `dst` is combined with the first i bytes of `src`.
use Rattle.std.proofs.Common.{◌≡◌, take}
use Rattle.symbol.specs.Xor.{xor_bytes}
use Rattle.symbol.proofs.exclusive_or.Given as goal

abbrev pub invariant-loop-i : goal.invariant-loop-i
invariant-loop-i l = l.dst ≡ xor_bytes l.initial.dst (take l.i l.src)
