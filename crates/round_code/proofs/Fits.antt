-- Within the bounds of the round code its numbers are small: `fits-numbers`, `blocks-some`, `blocks-fit`. What callers need
-- to ask for an answer: `admitted-digits`.
use mathlib.Core.Path.{◌≡◌}
use mathlib.Core.Bool.{true}
use mathlib.Core.List.{List}
use Prim.Native.Nat.{ℕ, ◌-◌, ◌*◌, ◌^◌, ◌≤◌, ◌<◌}
use native.Mathlib.Nat.{one-le-pow, mul-le-mul}
use native.Mathlib.Omega.{arith}
use Rattle.parameters.specs.Bounds.{blocks, round_fits}
use Rattle.parameters.proofs.Bounds.{round-bounds}
use Rattle.round_scheme.specs.Round.{round_admits}
use Rattle.round_scheme.proofs.Queries.{admits-facts, admitted-rows}
use Rattle.round_code.specs.Steps.{RoundNumbers, DigitRows}

pub fits-numbers : (N K S : ℕ) → round_fits N K S ≡ true → RoundNumbers N K
fits-numbers N K S fits =
    let b = round-bounds N K S fits in
    record {
      servers-low = b.servers-low;
      servers-high = b.servers-high;
      messages-low = b.messages-low;
      messages-high = b.messages-high;
      blocks-high = b.blocks-high;
    }

-- a query that a server admits can be answered
pub admitted-digits : (N K server : ℕ) (query : List ℕ) → round_admits N K server query ≡ true → DigitRows N K query
admitted-digits N K server query admits = record {
  long = (admits-facts N K server query admits).long;
  rows = admitted-rows N K server query admits;
}

module _ (N K : ℕ) (b : RoundNumbers N K) where
  pub blocks-some : 1 ≤ blocks N K
  blocks-some = one-le-pow (K - 1) N (omega (arith, b.servers-low))

  pub blocks-fit : N ^ (K - 1) < 2 ^ 64
  blocks-fit = omega (arith, b.blocks-high)

  -- a symbol for each block
  pub slot_small : (S i : ℕ) → S ≤ 4096 → i ≤ blocks N K → i * S ≤ 64 * 4096
  slot_small S i h k = let few : i ≤ 64 = omega (arith, b.blocks-high) in mul-le-mul few h

  -- the digits of the rows
  pub rows-small : (i : ℕ) → i ≤ blocks N K → i * K ≤ 64 * 7
  rows-small i k = let few : i ≤ 64 = omega (arith, b.blocks-high) in mul-le-mul few b.messages-high
