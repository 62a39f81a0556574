-- `even_key::permutations_good` meets its contract: all parts before p are permutations.
use mathlib.Core.Path.{◌≡◌}
use mathlib.Core.Bool.{true}
use Prim.Native.Nat.{◌*◌}
use Rattle.lists.specs.Distinct.{is_permutation}
use Rattle.lists.specs.Parts.{cut}
use Rattle.lists.specs.Ranges.{every}
use Rattle.even_key.proofs.permutations_good.Given as goal

abbrev pub invariant-loop-p : goal.invariant-loop-p
invariant-loop-p l = every l.p (λ q. is_permutation l.size (cut (q * l.size) l.size l.key)) ≡ true
