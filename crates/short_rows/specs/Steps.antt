-- What the steps are given and what they leave behind, where the rule of short_scheme/specs/Short.antt has no name for it.
use Rattle.std.specs.Prelude.{Bool, true, false, List, [], ◌∷◌, map, ℕ, zero, suc, ◌+◌, ◌*◌, ◌%◌, ◌≤◌, ◌<◌, length, get_or}
use Rattle.lists.specs.Parts.{cut}
use Rattle.lists.specs.Ranges.{range}
use Rattle.symbol.specs.Sum.{Sum, total_from, less}

-- `out` after the symbols are gathered in it: the first is copied, unless one has `begun` it, and the others are combined with it
unfoldable pub gathered : Sum → Bool → List ℕ → List (List ℕ) → List ℕ
gathered sum begun out [] = out
gathered sum true out (x ∷ symbols) = total_from sum (sum.plus out x) symbols
gathered sum false out (x ∷ symbols) = total_from sum x symbols

-- whether a symbol has begun it, after one digit more
unfoldable pub begun_by : Bool → ℕ → Bool
begun_by begun zero = begun
begun_by begun (suc d) = true

-- the answers of N servers begin in the answer buffer where `starts` says, and it has room for a symbol at each
pub record Placed (N S : ℕ) (starts answers : List ℕ) : Type 0 where
  pub few : N ≤ 16
  pub some : 0 < S
  pub small : S ≤ 1048576
  pub known : N ≤ length starts
  pub inside : (i : ℕ) → i < N → get_or starts i 0 + S ≤ length answers

-- the answers of N servers lie in slots of S bytes, one after another, and the answer buffer has room for all of them
pub record Slotted (N S : ℕ) (answers : List ℕ) : Type 0 where
  pub few : N ≤ 16
  pub some : 0 < S
  pub small : S ≤ 1048576
  pub room : N * S ≤ length answers

-- where the slots of 16 servers begin, of S bytes each
abbrev pub slot_starts : ℕ → List ℕ
slot_starts S = map (λ i. i * S) (range 0 16)

-- the symbol that digit d names, from the answer buffer: that of one server, less that of server T; `empty`: server T's answer is
abbrev pub from_places : Sum → ℕ → ℕ → ℕ → Bool → List ℕ → List ℕ → ℕ → List ℕ
from_places sum N S T empty starts answers d = less sum empty (cut (get_or starts ((d + T) % N) 0) S answers) (cut (get_or starts T 0) S answers)
