-- The sum of every operation is an abelian group on the symbols of each size (`group_of`), and goes with prefixes (`prefixes-of`). The operations
-- are apart (`not-added`).
use mathlib.Core.Path.{◌≡◌}
use Prim.Native.Nat.{ℕ}
use native.Mathlib.Omega.{arith}
use Rattle.symbol.specs.declared.Operation.{Operation}
use Rattle.symbol.specs.declared.Operation.TheVariants.{ExclusiveOr, Addition}
use Rattle.symbol.specs.Group.{AbelianGroup, Prefixes}
use Rattle.symbol.specs.Operations.{sum_of}
use Rattle.symbol.proofs.XorBytes.{xor-take}
use Rattle.symbol.proofs.XorGroup.{xor-group}
use Rattle.symbol.proofs.AddWords.{add-take, sub-take}
use Rattle.symbol.proofs.WordsGroup.{words-group}

pub group_of : (op : Operation) (size : ℕ) → AbelianGroup (sum_of op) size
group_of ExclusiveOr = xor-group
group_of Addition = words-group

pub prefixes-of : (op : Operation) → Prefixes (sum_of op)
prefixes-of ExclusiveOr = record { plus-take = xor-take; minus-take = xor-take }
prefixes-of Addition = record { plus-take = add-take; minus-take = sub-take }

pub not-added : {A : Type 0} → ExclusiveOr ≡ Addition → A
not-added e = let z : ◌≡◌ {A = ℕ} 0 1 = cc in absurd (let w : ⊥ = omega arith in w)
