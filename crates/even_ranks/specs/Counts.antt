-- Counting the sets of an even query (document 01, 'Even code'; source 003, section IV-B), where k is the wanted message.
-- A block, counted from 0, takes places set by set: so many sets with a message, so many next places of it. The counters tell how
-- many sets have each message, in each block, twice: for the sets without k (false) and for those with it (true).
use Rattle.std.specs.Prelude.{◌≡◌, ℕ, ◌+◌, ◌-◌, ◌*◌, ◌/◌, ◌%◌, ◌^◌, ◌≤◌, Bool, List, [], ◌∷◌, map, eqb, length, get_or, replicate}
use Rattle.lists.specs.Parts.{cut, put}
use Rattle.lists.specs.Ranges.{range}
use Rattle.lists.specs.Sums.{bit, sum}
use Rattle.even_places.specs.Rule.{has, byte_of, ones_in, after, all_sets}
use Rattle.even_sets.specs.Sets.{set_in}

-- where the counter of message p stands
unfoldable pub counter : Bool → ℕ → ℕ → ℕ
counter t b p = bit t * 64 + b * 8 + p

unfoldable pub no_counts : List ℕ
no_counts = replicate 128 0

-- a byte that stands for a set of K messages, one of them at least
pub record Stands (K byte : ℕ) : Type 0 where
  pub encoded : byte_of (set_in K byte) ≡ byte
  pub some : 1 ≤ ones_in (set_in K byte)

module _ (k : ℕ) where
  -- where the counters of A's block and kind begin
  unfoldable pub counters_of : List Bool → ℕ
  counters_of A = counter (has k A) (ones_in A - 1) 0

  -- one more for each message of A
  unfoldable pub set_counted : List Bool → List ℕ → List ℕ
  set_counted A counts = put (counters_of A) (after A (cut (counters_of A) (length A) counts)) counts

  unfoldable pub counted_all : List (List Bool) → List ℕ → List ℕ
  counted_all [] counts = counts
  counted_all (A ∷ sets) counts = counted_all sets (set_counted A counts)

-- the counts of all sets of K messages
unfoldable pub totals_of : ℕ → ℕ → List ℕ
totals_of K k = counted_all k (all_sets K) no_counts

-- how many sets of block b have rows that take a next place of message p: those with k take one of k, the others of each message
unfoldable pub takers : ℕ → List ℕ → ℕ → ℕ → ℕ
takers k totals b p = get_or totals (counter (eqb p k) b p) 0

module _ (N k : ℕ) (totals : List ℕ) where
  -- how many places of message p each of N servers takes in the blocks before b
  unfoldable pub taken : ℕ → ℕ → ℕ
  taken b p = sum (λ j. (N - 1) ^ j * takers k totals j p) (range 0 b)

  -- those of block b, eight messages each, one block after another
  unfoldable pub taken_table : List ℕ
  taken_table = map (λ i. taken (i / 8) (i % 8)) (range 0 64)
