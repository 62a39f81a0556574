-- What an admitted catalogue's numbers and sizes are bounded by (`admitted-numbers`, `admitted-small`), and what its dates and lengths are
-- (`admitted-dates`, `admitted-lengths`): no message is empty, and none is longer than its symbols (`admitted-ends`). Rests on the bounds of each code.
use mathlib.Core.Path.{◌≡◌}
use mathlib.Core.Bool.{true, ◌&&◌}
use Prim.Native.Nat.{ℕ, ◌-◌, ◌*◌, ◌^◌, ◌≤◌, ◌<◌}
use native.Mathlib.Nat.{mul-le-mul, one-le-pow}
use native.Mathlib.Omega.{arith}
use borrow.Author.Tests.{eqb-false, not-false}
use Rattle.lists.proofs.Both.{both_true}
use Rattle.refusal.proofs.Accepted.{accepted-none}
use Rattle.parameters.specs.Bounds.{short_fits, blocks}
use Rattle.parameters.specs.Measures.{short_sizes, turn_sizes, even_sizes, round_sizes}
use Rattle.parameters.proofs.Bounds.{short-bounds, even-bounds, round-bounds}
use Rattle.lengths.specs.Lengths.{length_of}
use Rattle.lengths.proofs.Fits.{length-within}
use Rattle.catalogue.specs.declared.Code.{Code}
use Rattle.catalogue.specs.declared.Code.TheVariants.{Short, Even, Turn, Round}
use Rattle.catalogue.specs.declared.Catalogue.{Catalogue}
use Rattle.catalogue.specs.Catalogue.{fits, numbers_fit, dates_fit, messages_end, in_bounds, catalogue_faults, catalogue_verdict}
use Rattle.catalogue.specs.Catalogue.{Admitted, sizes_by, sizes_of}
use Rattle.parameters.proofs.SmallSizes.{Small, short-small, turn_small, even-small, round-small}

-- the numbers of an admitted catalogue, in every code
pub record Numbers (N K S : ℕ) : Type 0 where
  pub servers-low : 2 ≤ N
  pub servers-high : N ≤ 16
  pub messages-low : 2 ≤ K
  pub messages-high : K ≤ 32
  pub symbol_low : 1 ≤ S
  pub symbol_high : S ≤ 4096

short-numbers : (N K S : ℕ) → short_fits N K S ≡ true → (K ≡ 1 → ⊥) → Numbers N K S
short-numbers N K S e more = let b = short-bounds N K S e in omega arith

pub fits-numbers : (code : Code) (N K S : ℕ) → fits code N K S ≡ true → (K ≡ 1 → ⊥) → Numbers N K S
fits-numbers Short N K S e more = short-numbers N K S e more
fits-numbers Even N K S e more = let b = even-bounds N K S e in omega arith
fits-numbers Turn N K S e more = short-numbers N K S e more
fits-numbers Round N K S e more = let b = round-bounds N K S e in omega arith

fits-small : (code : Code) (N K S : ℕ) → fits code N K S ≡ true → Small N (sizes_by code N K S)
fits-small Short N K S e = short-small N K S (short-bounds N K S e)
fits-small Even N K S e = even-small N K S (even-bounds N K S e)
fits-small Turn N K S e = turn_small N K S (short-bounds N K S e)
fits-small Round N K S e = round-small N K S (round-bounds N K S e)

admitted-bounds : (c : Catalogue) → Admitted c → (numbers_fit c ≡ true) × (dates_fit c.opening c.closing && messages_end c ≡ true)
unfolding catalogue_verdict
admitted-bounds c a =
    both_true (numbers_fit c) (dates_fit c.opening c.closing && messages_end c) (not-false (in_bounds c) (accepted-none (catalogue_faults c) a).0)

pub admitted-fits : (c : Catalogue) → Admitted c → numbers_fit c ≡ true
admitted-fits c a = (admitted-bounds c a).0

pub admitted-dates : (c : Catalogue) → Admitted c → dates_fit c.opening c.closing ≡ true
admitted-dates c a = (both_true (dates_fit c.opening c.closing) (messages_end c) (admitted-bounds c a).1).0

pub admitted-lengths : (c : Catalogue) → Admitted c → messages_end c ≡ true
admitted-lengths c a = (both_true (dates_fit c.opening c.closing) (messages_end c) (admitted-bounds c a).1).1

pub admitted-numbers : (c : Catalogue) → Admitted c → Numbers c.servers c.messages c.symbol
unfolding catalogue_verdict
admitted-numbers c a =
    let more = eqb-false c.messages 1 (accepted-none (catalogue_faults c) a).1.0 in
    fits-numbers c.code c.servers c.messages c.symbol (admitted-fits c a) more

pub admitted-small : (c : Catalogue) → Admitted c → Small c.servers (sizes_of c)
unfolding sizes_of
admitted-small c a = fits-small c.code c.servers c.messages c.symbol (admitted-fits c a)

-- a query has at least one byte
some-query : (code : Code) (N K S : ℕ) → Numbers N K S → 0 < (sizes_by code N K S).query
unfolding short_sizes turn_sizes even_sizes round_sizes
some-query Short N K S n = omega (arith, n.messages-low)
some-query Even N K S n =
    let some : 1 * 1 ≤ K * N ^ (K - 1) = mul-le-mul (let h : 1 ≤ K = omega (arith, n.messages-low) in h)
    (one-le-pow (K - 1) N (let h : 1 ≤ N = omega (arith, n.servers-low) in h)) in
    omega arith
some-query Turn N K S n = omega (arith, n.messages-low)
some-query Round N K S n =
    let some : 1 * 1 ≤ blocks N K * K = mul-le-mul (one-le-pow (K - 1) N (let h : 1 ≤ N = omega (arith, n.servers-low) in h))
    (let h : 1 ≤ K = omega (arith, n.messages-low) in h) in
    omega arith

pub admitted-query : (c : Catalogue) → Admitted c → 0 < (sizes_of c).query
unfolding sizes_of
admitted-query c a = some-query c.code c.servers c.messages c.symbol (admitted-numbers c a)

-- a message has at least one byte, and no more than its symbols
pub admitted-ends : (c : Catalogue) → Admitted c → (k : ℕ) → k < c.messages
    → (1 ≤ length_of c.lengths (sizes_of c).message k) × (length_of c.lengths (sizes_of c).message k ≤ (sizes_of c).message)
admitted-ends c a =
    length-within c.messages (sizes_of c).message c.lengths (admitted-lengths c a) (admitted-numbers c a).messages-high
    (admitted-small c a).message-some
