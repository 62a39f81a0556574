-- Sums over lists, the elements that pass a test, and what holds of each element. How often a thing stands in a list is a sum of bits.
use Rattle.std.specs.Prelude.{ℕ, ◌+◌, Bool, true, false}
use mathlib.Core.List.{List, [], ◌∷◌}

-- a test as a number: how often it holds, 1 or 0
unfoldable pub bit : Bool → ℕ
bit true = 1
bit false = 0

module _ {A : Type 0} where
  unfoldable pub keep_if : Bool → A → List A → List A
  keep_if true x r = x ∷ r
  keep_if false x r = r

  -- the elements that pass the test, in order
  unfoldable pub keep : (A → Bool) → List A → List A
  unfolding keep_if
  keep f [] = []
  keep f (x ∷ xs) = keep_if (f x) x (keep f xs)

  -- the sum of a number for each element
  unfoldable pub sum : (A → ℕ) → List A → ℕ
  sum f [] = 0
  sum f (x ∷ xs) = f x + sum f xs

-- each element has the property
pub data All {A : Type 0} (P : A → Type 0) : List A → Type 0 where
  all_nil : All P []
  all_cons : {x : A} {xs : List A} → P x → All P xs → All P (x ∷ xs)
