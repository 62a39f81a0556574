-- `even_key::key_good` meets its contract: the power is the size of a permutation.
use mathlib.Core.Path.{ap, ◌∙◌}
use Prim.Native.Nat.{ℕ, zero, suc, ◌*◌, ◌^◌, ◌<◌}
use native.Mathlib.Nat.{pow-zero, suc-mul}
use native.Mathlib.Omega.{arith}
use lib.ListN.{length}
use Rattle.lists.specs.Distinct.{is_permutation}
use Rattle.lists.specs.Parts.{cut}
use Rattle.lists.specs.Ranges.{every}
use Rattle.even_scheme.specs.Even.{even_key_good, permutation}
use Rattle.even_key.proofs.key_good.Goals as goal

-- a permutation is no longer than the key, unless there is none
size_fits : (n k bound : ℕ) → 1 < bound → k * n ^ k < bound → n ^ k < bound
size_fits n zero bound some h = rw (pow-zero n) some
size_fits n (suc k) bound some h = omega (arith, suc-mul k (n ^ suc k))

pub power-requires : goal.power-requires
power-requires c = let args = c.args in
    size_fits args.n args.k (2 ^ 64) (omega arith) (let fits : length args.key.now < 2 ^ 64 = omega arith in omega arith)

pub returns : goal.returns
unfolding even_key_good permutation
returns c = let args = c.args in
    c.permutations_good.ensures
    ∙ ap (λ (size : ℕ). every args.k (λ p. is_permutation size (cut (p * size) size args.key.now))) c.power.ensures
