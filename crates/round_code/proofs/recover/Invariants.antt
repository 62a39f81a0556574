-- `round_code::recover` meets its contract: after i turns the first i blocks are written, as far as the message reaches, and `before` is how long server
-- 0's answers to their rows are together.
use mathlib.Core.Path.{◌≡◌}
use mathlib.Core.List.{flat_map}
use Rattle.lists.specs.Parts.{lay}
use Rattle.lists.specs.Ranges.{range}
use Rattle.symbol.specs.Operations.{sum_of}
use Rattle.round_code.proofs.Blocks.{first_before, block_at}
use Rattle.round_code.proofs.recover.Given as goal

abbrev pub invariant-loop-i : goal.invariant-loop-i
invariant-loop-i l =
    (l.before ≡ first_before l.n l.k l.s l.wanted l.key l.i)
    × (l.message ≡ lay 0 (flat_map (block_at (sum_of l.fn.op) l.n l.k l.s l.wanted l.key l.answers) (range 0 l.i)) l.initial.message)
