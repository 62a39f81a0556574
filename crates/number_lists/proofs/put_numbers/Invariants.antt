-- `number_lists::put_numbers` meets its contract: after i turns the first i numbers are written, and the others are still to be read.
use mathlib.Core.Path.{◌≡◌}
use mathlib.Core.Bool.{true}
use mathlib.Core.List.{List, ◌++◌}
use Prim.Native.Nat.{ℕ}
use lib.ListN.{length, take, drop}
use Rattle.lists.specs.Below.{all_below}
use Rattle.number_lists.specs.NumberLists.{numbers_at, list_of}
use Rattle.number_lists.proofs.Filling.{LeftAt}
use Rattle.number_lists.proofs.put_numbers.Given as goal

-- after i turns, over the numbers that are written and the buffer at first
pub record Filled (text numbers first : List ℕ) (out : List ℕ) (at i : ℕ) : Type 0 where
  pub many : length numbers ≡ length first
  pub bytes : all_below 256 numbers ≡ true
  pub written : out ≡ take i numbers ++ drop i first
  pub left : LeftAt text numbers at i

abbrev pub invariant-loop-place : goal.invariant-loop-place
invariant-loop-place l = Filled l.text (list_of (numbers_at l.text l.start)) l.initial.out l.out l.at l.place-index
