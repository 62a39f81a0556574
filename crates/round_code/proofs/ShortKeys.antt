-- The short key of a block in the array that holds it: the first places are its digits (`held`, `held-long`), which are below N (`held_below`). The entry
-- 0 has the short key of zeros: `entry-zeros`.
use mathlib.Core.Path.{◌≡◌, ap, ◌∙◌}
use mathlib.Core.Bool.{true}
use mathlib.Core.List.{List}
use Prim.Native.Nat.{ℕ, ◌-◌, ◌<◌}
use native.Mathlib.Omega.{arith}
use lib.Dec.{eqb}
use lib.ListN.{length, take, replicate}
use lib.Seq.{take_at}
use Rattle.lists.specs.Below.{all_below}
use Rattle.lists.specs.Padded.{padded}
use Rattle.lists.proofs.Below.{below-all_below}
use Rattle.parameters.specs.Bounds.{blocks}
use Rattle.short_scheme.specs.Short.{all_zero}
use Rattle.round_scheme.specs.Round.{digits}
use Rattle.round_scheme.proofs.Numbers.{digits-length, digits-below, number_digits, number-zero}
use Rattle.round_code.specs.Steps.{RoundNumbers, most_digits}

module _ (N K entry : ℕ) (array : List ℕ) (e : array ≡ padded most_digits (digits N (K - 1) entry)) where
  pub held : take (K - 1) array ≡ digits N (K - 1) entry
  held =
      let ds = digits N (K - 1) entry in
      ap (take (K - 1)) e ∙ take_at ds (replicate (most_digits - length ds) 0) (K - 1) (digits-length N (K - 1) entry)

  pub held-long : length (take (K - 1) array) ≡ K - 1
  held-long = ap length held ∙ digits-length N (K - 1) entry

  pub held_below : RoundNumbers N K → entry < blocks N K → all_below N (take (K - 1) array) ≡ true
  held_below b low =
      ap (all_below N) held ∙ below-all_below N (digits N (K - 1) entry) (digits-below N (omega (arith, b.servers-low)) (K - 1) entry low)

-- an entry is 0 exactly if its digits are
pub entry-zeros : (N K entry : ℕ) → RoundNumbers N K → entry < blocks N K → all_zero (digits N (K - 1) entry) ≡ eqb entry 0
entry-zeros N K entry b low =
    let some : 0 < N = omega (arith, b.servers-low) in
    number-zero N some (digits N (K - 1) entry) ∙ ap (λ (v : ℕ). eqb v 0) (number_digits N some (K - 1) entry low)
