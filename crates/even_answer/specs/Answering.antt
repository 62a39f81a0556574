-- What answering in the even code is given, and its single steps (document 01, 'Even code').
use Rattle.std.specs.Prelude.{◌≡◌, Bool, true, cond, List, ℕ, ◌*◌, ◌^◌, ◌≤◌, length}
use Rattle.std.specs.Int.Count.{ones as count}
use Rattle.lists.specs.Below.{Below}
use Rattle.parameters.specs.Bounds.{even_fits}
use Rattle.parameters.specs.Measures.{even_sizes}
use Rattle.symbol.specs.Sum.{Sum}
use Rattle.even_places.specs.Rule.{ones_in}
use Rattle.even_sets.specs.Sets.{set_in}

-- a symbol combined into what stands there, or put there if it is the first
abbrev pub added : Sum → Bool → List ℕ → List ℕ → List ℕ
added sum first old symbol = cond first symbol (sum.plus old symbol)

-- What answering is given: numbers within the bounds, a store of the right length, a query of the right length that names symbols
-- (an admitted one does: `admitted-answerable`), and room for the answer
pub record Answerable (N K S : ℕ) (store query out : List ℕ) : Type 0 where
  pub fits : even_fits N K S ≡ true
  pub whole : length store ≡ (even_sizes N K S).store
  pub long : length query ≡ (even_sizes N K S).query
  pub named : Below (N ^ K) query
  pub room : (even_sizes N K S).slot ≤ length out

-- what answering some rows of one set is given: a set with a message in it, and a number for each of its messages in each row
pub record SetAnswerable (N K S : ℕ) (store : List ℕ) (set rows : ℕ) (numbers : List ℕ) : Type 0 where
  pub fits : even_fits N K S ≡ true
  pub whole : length store ≡ (even_sizes N K S).store
  pub named : Below (N ^ K) numbers
  pub some : 1 ≤ count set
  pub inside : ones_in (set_in K set) ≡ count set
  pub enough : rows * count set ≤ length numbers
