-- What is asked of a row beside the rule of Short.antt: that an answer can be made to it, and that what it names is stored.
use Rattle.std.specs.Prelude.{◌≡◌, true, List, ℕ, ◌+◌, ◌*◌, ◌≤◌, ◌<◌, length, get_or}
use Rattle.lists.specs.Below.{all_below}

-- A row that an answer can be made to, whichever server admits it: K digits below N
pub record DigitRow (N K : ℕ) (query : List ℕ) : Type 0 where
  pub long : length query ≡ K
  pub digits : all_below N query ≡ true

-- all that the digits of a row name lies in the store
pub record RowStored (first stride S : ℕ) (store row : List ℕ) : Type 0 where
  pub stored : (p : ℕ) → p < length row → (first + p * stride + get_or row p 0) * S ≤ length store
