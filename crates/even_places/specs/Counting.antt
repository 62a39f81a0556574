-- The rows of the place rule by counting: which places a server's rows of a block have, without the turns before it. Each server takes
-- equally many places of a message in a block, so the next place at a turn is a sum. A consequence of the process of specs/Rule.antt:
-- `rows-by-counting` (proofs/Process.antt) shows that a query's rows are these. Blocks are counted from 0, as there.
use Prim.Native.Nat.{ℕ, zero, suc, ◌+◌, ◌*◌, ◌-◌}
use mathlib.Core.List.{List, [], ◌∷◌, ◌++◌, map, flat_map}
use Rattle.std.specs.Prelude.{Bool}
use Rattle.std.proofs.Math.Option.{none}
use Rattle.std.proofs.Math.ListN.{length, replicate}
use Rattle.lists.specs.Sums.{bit, sum}
use Rattle.lists.specs.Ranges.{range}
use Rattle.even_places.specs.Rule.{Row, has, sets, number, join, others, side_sets, by_set}

-- how many of the sets have message p
unfoldable pub with : ℕ → List (List Bool) → ℕ
unfolding bit has sum
with p L = sum (λ A. bit (has p A)) L

-- The next place at server n's turn in block b, of a message of which each server takes f b places in block b:
-- as many as all servers took in the blocks before, and the servers before n in this one.
unfoldable pub used : ℕ → (ℕ → ℕ) → ℕ → ℕ → ℕ
unfolding sum range
used N f b n = N * sum f (range 0 b) + n * f b

module _ (N K k : ℕ) where
  -- server n's side rows of block b, in the order made
  unfoldable pub side_rows : ℕ → ℕ → List Row
  unfolding side_sets used with number range
  side_rows b n = number (map (λ p. used N (λ j. with p (side_sets N K k j)) b n) (range 0 K)) (side_sets N K k b)

  -- the rows that server n's wanted rows of block b are joined from: in block 0 a single row with no message, then the side rows of
  -- the block before at the other servers
  unfoldable pub sources : ℕ → ℕ → List Row
  unfolding flat_map others side_rows
  sources zero n = replicate K none ∷ []
  sources (suc b) n = flat_map (side_rows b) (others N n)

  -- how many wanted rows each server has in block b
  unfoldable pub joins : ℕ → ℕ
  unfolding side_sets
  joins zero = 1
  joins (suc b) = (N - 1) * length (side_sets N K k b)

  unfoldable pub wanted_rows : ℕ → ℕ → List Row
  unfolding join used joins sources
  wanted_rows b n = join k (used N joins b n) (sources b n)

  -- server n's rows of block b, in the order made: within one set, which is all that the order of a query goes by
  unfoldable pub block : ℕ → ℕ → List Row
  unfolding side_rows wanted_rows
  block b n = side_rows b n ++ wanted_rows b n

  -- server n's query as rows
  unfoldable pub counted_rows : ℕ → List Row
  unfolding flat_map by_set sets block range
  counted_rows n = flat_map (λ b. by_set (sets K (suc b)) (block b n)) (range 0 K)
