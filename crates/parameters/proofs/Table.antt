-- The tables of the greatest message counts: their rule, by one computed test over all entries of each (`even-right`, `round-right`), what an
-- entry decides (`even-decides`, `round-decides`), so that they tell the bounds (`even-fits`, `round-fits`), and the last column of document 01's
-- table (`from-seven`).
use Rattle.std.proofs.lemmas.Bool.Decides.{nat_tests}
use mathlib.Core.Path.{◌≡◌, refl, sym, ap, ◌∙◌}
use mathlib.Core.Bool.{Bool, true, ◌&&◌}
use mathlib.Core.List.{List}
use Prim.Native.Nat.{ℕ, ◌+◌, ◌-◌, ◌^◌, ◌≤◌}
use native.Mathlib.Nat.{pow-le-pow_left, pow-le-pow_right}
use native.Mathlib.Omega.{arith}
use lib.Dec.{leb, ltb}
use lib.ListN.{get_or}
use Rattle.lists.specs.Ranges.{every}
use Rattle.lists.proofs.Every.{every-at}
use Rattle.parameters.specs.Bounds.{servers_fit, symbol_fits, blocks, even_fits, round_fits}
use Rattle.parameters.specs.Table.{even_table, round_table, most_messages, table_fits, Most}

-- the rule of `Most`, as a test
abbrev is_most : ℕ → (ℕ → ℕ) → ℕ → Bool
is_most limit asked K = leb (asked K) limit && ltb limit (asked (K + 1))

is-most : (limit : ℕ) (asked : ℕ → ℕ) (K : ℕ) → is_most limit asked K ≡ true → Most limit asked K
is-most limit asked K e = grind (arith, nat_tests)

-- K is at most the entry exactly if what K messages ask for is within the limit, where more messages never ask for less
most-decides : (limit : ℕ) (asked : ℕ → ℕ) (K most : ℕ) → ((a b : ℕ) → a ≤ b → asked a ≤ asked b) → Most limit asked most
    → leb (asked K) limit ≡ leb K most
most-decides limit asked K most grows m = grind (arith, nat_tests)

-- the rule at every entry of a table, as one test
abbrev table_right : ℕ → (ℕ → ℕ → ℕ) → List ℕ → Bool
table_right limit asked table = every 15 (λ i. is_most limit (asked (i + 2)) (get_or table i 0))

module _ (limit : ℕ) (asked : ℕ → ℕ → ℕ) (table : List ℕ) (right : table_right limit asked table ≡ true) where
  -- the rule holds at N's entry
  table-most : (N : ℕ) → 2 ≤ N → N ≤ 16 → Most limit (asked N) (most_messages table N)
  table-most N low high =
      let e : N - 2 + 2 ≡ N = omega arith in
      is-most limit (asked N) (most_messages table N)
      (ap (λ (n : ℕ). is_most limit (asked n) (most_messages table N)) (sym e)
      ∙ every-at 15 (λ i. is_most limit (asked (i + 2)) (get_or table i 0)) right (N - 2) (omega arith))

-- where a table decides what is within a limit, it tells the bounds of the code
table-fits : (limit : ℕ) (asked : ℕ → ℕ → ℕ) (table : List ℕ)
    → ((N K : ℕ) → 2 ≤ N → N ≤ 16 → leb (asked N K) limit ≡ leb K (most_messages table N))
    → (N K S : ℕ) → table_fits table N K S ≡ servers_fit N && (symbol_fits S && (leb 1 K && leb (asked N K) limit))
table-fits limit asked table decides N K S = grind (arith, nat_tests)

-- ---- The even code

even-right : table_right 256 (λ N K. N ^ K) even_table ≡ true
unfolding every
even-right = refl

-- K is within the even code's bound exactly if it is at most N's entry
pub even-decides : (N K : ℕ) → 2 ≤ N → N ≤ 16 → leb (N ^ K) 256 ≡ leb K (most_messages even_table N)
even-decides N K low high =
    most-decides 256 (λ k. N ^ k) K (most_messages even_table N) (λ a b h. pow-le-pow_right {n = N} (omega arith) h)
    (table-most 256 (λ n k. n ^ k) even_table even-right N low high)

pub even-fits : (N K S : ℕ) → table_fits even_table N K S ≡ even_fits N K S
unfolding even_fits
even-fits = table-fits 256 (λ n k. n ^ k) even_table even-decides

-- from N = 7 on the greatest K is 2
pub from-seven : (N : ℕ) → 7 ≤ N → N ≤ 16 → Most 256 (λ K. N ^ K) 2
from-seven N low high =
    let square : N ^ 2 ≤ 16 ^ 2 = pow-le-pow_left high 2 in
    let cube : 7 ^ 3 ≤ N ^ 3 = pow-le-pow_left low 3 in
    record { within = omega arith; beyond = omega arith }

-- ---- The round code

round-right : table_right 64 blocks round_table ≡ true
unfolding every
round-right = refl

-- K is within the round code's bound exactly if it is at most N's entry
pub round-decides : (N K : ℕ) → 2 ≤ N → N ≤ 16 → leb (blocks N K) 64 ≡ leb K (most_messages round_table N)
round-decides N K low high =
    most-decides 64 (blocks N) K (most_messages round_table N) (λ a b h. pow-le-pow_right {n = N} (omega arith) (omega arith))
    (table-most 64 blocks round_table round-right N low high)

pub round-fits : (N K S : ℕ) → table_fits round_table N K S ≡ round_fits N K S
unfolding round_fits
round-fits = table-fits 64 blocks round_table round-decides
