-- `round_code::answer` meets its contract: after i turns the answers to the first i rows are written, one behind the other.
use mathlib.Core.Path.{◌≡◌}
use mathlib.Core.List.{flat_map}
use Rattle.lists.specs.Parts.{put}
use Rattle.lists.specs.Ranges.{range}
use Rattle.symbol.specs.Operations.{sum_of}
use Rattle.round_scheme.specs.Round.{length_before, row_answer}
use Rattle.round_code.proofs.answer.Given as goal

abbrev pub invariant-loop-i : goal.invariant-loop-i
invariant-loop-i l =
    (l.at ≡ length_before l.k l.s l.query l.i)
    × (l.out ≡ put 0 (flat_map (row_answer (sum_of l.op) l.n l.k l.s l.store l.query) (range 0 l.i)) l.initial.out)
