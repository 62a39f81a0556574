-- The running sums of digits modulo N, as the loop of `digits::digit_sum` makes them, and what is asked of them (document 02, item 3). Nothing
-- here is divided; that the last is the sum of document 01, 'Short code', is `StaysBelow.last`.
use Rattle.std.specs.Prelude.{◌≡◌, cond, List, [], ◌∷◌, ℕ, suc, ◌+◌, ◌-◌, ◌%◌, ltb, length, get_or}
use Rattle.lists.specs.Below.{Below}
use Rattle.short_scheme.specs.Short.{digit_sum}

-- A sum below N with a digit added, less N where that is reached. What the sum lacks to N is looked at first, so that no sum of N or more is made
-- on the way
unfoldable pub added : ℕ → ℕ → ℕ → ℕ
added N sum d = cond (ltb d (N - sum)) (sum + d) (d - (N - sum))

-- the running sums from `sum` on: the one before each digit, and the one after the last
unfoldable pub sums_from : ℕ → ℕ → List ℕ → List ℕ
sums_from N sum [] = sum ∷ []
sums_from N sum (d ∷ digits) = sum ∷ sums_from N (added N sum d) digits

abbrev pub running_sums : ℕ → List ℕ → List ℕ
running_sums N digits = sums_from N 0 digits

-- the running sum after the first i digits
abbrev pub sum_after : ℕ → List ℕ → ℕ → ℕ
sum_after N digits i = get_or (running_sums N digits) i 0

-- What holds of digits below N: there is a running sum before the first digit and one after each; every one of them is below N; and the last
-- is the digits' sum modulo N
pub record StaysBelow (N : ℕ) (digits : List ℕ) : Type 0 where
  pub counted : length (running_sums N digits) ≡ suc (length digits)
  pub below : Below N (running_sums N digits)
  pub last : sum_after N digits (length digits) ≡ digit_sum digits % N
