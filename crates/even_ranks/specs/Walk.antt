-- The places of a server's query by counting sets (document 01, 'Even code'; source 003, section IV-B): N servers, wanted message k.
-- Each block, counted from 0, hands out places in turns. A turn takes them set by set and row by row, so a place follows from the
-- rank of the row's set: how many sets with its message stand before it in the block, among those with k or those without it.
use Rattle.std.specs.Prelude.{ℕ, ◌+◌, ◌-◌, ◌*◌, ◌/◌, ◌%◌, ◌^◌, Bool, cond, ◌&&◌, eqb, ltb, length, get_or}
use mathlib.Core.List.{List, [], ◌∷◌, ◌++◌, map, flat_map}
use Rattle.lists.specs.Parts.{cut}
use Rattle.lists.specs.Ranges.{range}
use Rattle.even_places.specs.Rule.{has, ones_in, members, others, all_sets}
use Rattle.even_ranks.specs.Counts.{no_counts, counters_of, set_counted, totals_of, takers, taken}
use Rattle.even_ranks.specs.declared.Origin.{Origin}

-- ---- Places, where `totals` has the counts of all sets

module _ (N k : ℕ) (totals : List ℕ) where
  -- in block b, in a turn with `rows` rows for each set: the place of p in the row numbered `number` of the set of this rank
  unfoldable pub place_among : ℕ → ℕ → ℕ → ℕ → ℕ → ℕ → ℕ
  place_among b p rows turn rank number = N * taken N k totals b p + rows * (turn * takers k totals b p + rank) + number

  unfoldable pub origin_place : List ℕ → Origin → ℕ → ℕ
  origin_place ranks o p =
      cond (eqb p k)
      (place_among o.block p o.rows o.turn (get_or ranks p 0) o.number)
      (place_among o.source p o.rows o.server (get_or ranks p 0) o.number)

-- ---- Rows: the one numbered i of a set of m messages

module _ (N server : ℕ) where
  -- all messages take their next places
  unfoldable pub plain : ℕ → ℕ → Origin
  plain m i = record {
    block = m - 1;
    source = m - 1;
    rows = (N - 1) ^ (m - 1);
    turn = server;
    server = server;
    number = i;
  }

  -- k alone does, and without k the row is one of the block before at another server
  unfoldable pub joined : ℕ → ℕ → Origin
  joined m i = record {
    block = m - 1;
    source = m - 2;
    rows = (N - 1) ^ (m - 2);
    turn = server * (N - 1) + i / (N - 1) ^ (m - 2);
    server = get_or (others N server) (i / (N - 1) ^ (m - 2)) 0;
    number = i % (N - 1) ^ (m - 2);
  }

-- a set's rows are joined if it has k and another message
unfoldable pub is_joined : ℕ → List Bool → Bool
is_joined k A = has k A && ltb 1 (ones_in A)

module _ (N k server : ℕ) where
  unfoldable pub origin_of : List Bool → ℕ → Origin
  origin_of A i = cond (is_joined k A) (joined N server (ones_in A) i) (plain N server (ones_in A) i)

  module _ (totals : List ℕ) where
    -- the places of the row numbered i of set A, by its messages' ranks
    unfoldable pub row_places : List ℕ → List Bool → ℕ → List ℕ
    row_places ranks A i = map (origin_place N k totals ranks (origin_of A i)) (members 0 A)

    -- those of all rows of set A
    unfoldable pub set_places : List ℕ → List Bool → List ℕ
    set_places ranks A = flat_map (row_places ranks A) (range 0 ((N - 1) ^ (ones_in A - 1)))

    -- those of all rows of the sets, one set after another: a set's ranks are its counters before it is counted
    unfoldable pub sets_places : List ℕ → List (List Bool) → List ℕ
    sets_places counts [] = []
    sets_places counts (A ∷ sets) = set_places (cut (counters_of k A) (length A) counts) A ++ sets_places (set_counted k A counts) sets

-- the places of a query for one of K messages; `walked-is` shows that they are the rule's
unfoldable pub walked : ℕ → ℕ → ℕ → ℕ → List ℕ
walked N K k server = sets_places N k server (totals_of K k) no_counts (all_sets K)
