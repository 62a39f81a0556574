-- The place rule of the even code, in the order of document 01 ('Even code') and of source 003 (section IV-B, Algorithm 1): N servers,
-- K messages, wanted message k. A place stands for a symbol through the key.
-- Blocks and places are counted from 0 here: block b is block b + 1 of 01 and 003, with rows over sets of b + 1 messages.
-- specs/Counting.antt tells the same rows by counting, and `rows-by-counting` (proofs/Process.antt) ties the two.
use Prim.Native.Nat.{ℕ, zero, suc, ◌+◌, ◌*◌, ◌-◌, ◌^◌}
use mathlib.Core.List.{List, [], ◌∷◌, ◌++◌, map, flat_map}
use Rattle.std.specs.Prelude.{Bool, true, false, cond, ◌&&◌, replicate, eqb}
use Rattle.std.proofs.Math.Bool.{not}
use Rattle.std.specs.Bool.{beq}
use Rattle.std.proofs.Math.Option.{Option, none, some}
use Rattle.std.proofs.Math.ListN.{length, get_or, set}
use Rattle.lists.specs.Sums.{bit, keep, sum}
use Rattle.lists.specs.Ranges.{range}

-- ---- Sets of messages (003: types of sums)

-- A set of messages: its element p says whether message p is in it
unfoldable pub has : ℕ → List Bool → Bool
has p A = get_or A p false

-- the set as one byte, bit p for message p
unfoldable pub byte_of : List Bool → ℕ
unfolding bit
byte_of [] = 0
byte_of (a ∷ A) = byte_of A * 2 + bit a

-- how many messages are in it: its block, counted from 1
unfoldable pub ones_in : List Bool → ℕ
ones_in A = sum bit A

-- its messages, ascending, where the first element is message q's
unfoldable pub members : ℕ → List Bool → List ℕ
members q [] = []
members q (true ∷ A) = q ∷ members (suc q) A
members q (false ∷ A) = members (suc q) A

-- The sets of b of K messages, in lexicographic order of their ascending lists: those with the first message, then those without it
unfoldable pub sets : ℕ → ℕ → List (List Bool)
sets zero zero = [] ∷ []
sets zero (suc b) = []
sets (suc K) zero = map (λ A. false ∷ A) (sets K zero)
sets (suc K) (suc b) = map (λ A. true ∷ A) (sets K b) ++ map (λ A. false ∷ A) (sets K (suc b))

-- ---- Rows, and places used up in ascending order (003: `new`)

-- A row: for each message the place that it gives, or none
abbrev pub Row : Type 0
Row = List (Option ℕ)

unfoldable pub give : Bool → ℕ → Option ℕ
give true x = some x
give false x = none

-- the row of the next place of every message in A, where c has the next place of each message
unfoldable pub next : List Bool → List ℕ → Row
unfolding give
next [] c = []
next (a ∷ A) [] = []
next (a ∷ A) (x ∷ c) = give a x ∷ next A c

-- the next places after that row
unfoldable pub after : List Bool → List ℕ → List ℕ
unfolding bit
after [] c = []
after (a ∷ A) [] = []
after (a ∷ A) (x ∷ c) = (bit a + x) ∷ after A c

-- a row for each set, one after another, each taking the next place of every message in its set; and the next places after them
unfoldable pub number : List ℕ → List (List Bool) → List Row
unfolding next after
number c [] = []
number c (A ∷ L) = next A c ∷ number (after A c) L

unfoldable pub afters : List (List Bool) → List ℕ → List ℕ
unfolding after
afters [] c = c
afters (A ∷ L) c = afters L (after A c)

-- each row joined with the next place of k, from x on
unfoldable pub join : ℕ → ℕ → List Row → List Row
join k x [] = []
join k x (r ∷ rs) = set r k (some x) ∷ join k (suc x) rs

-- ---- The process: rows are made block by block, and in each by the servers in ascending order

-- what a server's turn in a block makes, each in the order made: rows without k (003: I), rows with k (003: M)
pub record TurnRows : Type 0 where
  pub side : List Row
  pub wanted : List Row

-- nothing made
abbrev pub idle : TurnRows
idle = record { side = []; wanted = [] }

-- the other servers than n, ascending
unfoldable pub others : ℕ → ℕ → List ℕ
unfolding range keep
others N n = keep (λ m. not (eqb m n)) (range 0 N)

module _ (N K k : ℕ) where
  -- The sets of the side rows of block b, in the order made: each set without k, in lexicographic order, (N - 1)^b times. In the first
  -- block (01: block 1): each message but k alone, once
  unfoldable pub side_sets : ℕ → List (List Bool)
  unfolding has sets keep flat_map
  side_sets b = flat_map (replicate ((N - 1) ^ b)) (keep (λ A. not (has k A)) (sets K (suc b)))

  -- Server n's wanted rows of a block, where x is the next place of k and `before` has what each server made in the block before.
  -- In the first block (01: block 1): k alone, once. Later (01: block b above 1): for each other server, ascending, for each of its rows
  -- of the block before without k, in the order made, that row joined with the next place of k
  unfoldable pub wanted_of : ℕ → List TurnRows → ℕ → ℕ → List Row
  unfolding others join flat_map
  wanted_of zero before n x = set (replicate K none) k (some x) ∷ []
  wanted_of (suc b) before n x = join k x (flat_map (λ m. (get_or before m idle).side) (others N n))

  -- Server n's turn in block b, where c has the next place of each message: side rows, each taking the next place of every message in
  -- its set, then wanted rows. So in the first block each message gives its next place, one row each
  unfoldable pub turn : ℕ → List TurnRows → ℕ → List ℕ → TurnRows
  unfolding side_sets wanted_of number afters
  turn b before n c = record {
    side = number c (side_sets b);
    wanted = wanted_of b before n (get_or (afters (side_sets b) c) k 0);
  }

  -- the next places after that turn: each wanted row took one of k
  unfoldable pub turned : ℕ → List TurnRows → ℕ → List ℕ → List ℕ
  unfolding turn side_sets afters
  turned b before n c =
      set (afters (side_sets b) c) k (get_or (afters (side_sets b) c) k 0 + length (turn b before n c).wanted)

  -- the turns of `count` servers in block b, from server n on; and the next places after them
  unfoldable pub turns : ℕ → List TurnRows → ℕ → ℕ → List ℕ → List TurnRows
  unfolding turn turned
  turns b before n zero c = []
  turns b before n (suc count) c = turn b before n c ∷ turns b before (suc n) count (turned b before n c)

  unfoldable pub turns_done : ℕ → List TurnRows → ℕ → ℕ → List ℕ → List ℕ
  unfolding turned
  turns_done b before n zero c = c
  turns_done b before n (suc count) c = turns_done b before (suc n) count (turned b before n c)

  -- `count` blocks, from block b on
  unfoldable pub blocks : ℕ → ℕ → List TurnRows → List ℕ → List (List TurnRows)
  unfolding turns turns_done
  blocks b zero before c = []
  blocks b (suc count) before c =
      turns b before 0 N c ∷ blocks (suc b) count (turns b before 0 N c) (turns_done b before 0 N c)

  -- all blocks, from place 0 of every message
  unfoldable pub process : List (List TurnRows)
  unfolding blocks
  process = blocks 0 K [] (replicate K 0)

-- ---- A query: rows by block, then by set in lexicographic order, then in the order made

unfoldable pub is_some : Option ℕ → Bool
is_some none = false
is_some (some x) = true

-- is A the row's set?
unfoldable pub same : List Bool → Row → Bool
unfolding is_some
same [] [] = true
same [] (x ∷ r) = false
same (a ∷ A) [] = false
same (a ∷ A) (x ∷ r) = beq a (is_some x) && same A r

-- the rows whose set is A, in order; and the rows by set, in the order of the sets
unfoldable pub of_set : List Bool → List Row → List Row
unfolding keep same
of_set A rs = keep (same A) rs

unfoldable pub by_set : List (List Bool) → List Row → List Row
unfolding flat_map of_set
by_set L rs = flat_map (λ A. of_set A rs) L

-- a row's places with their messages, ascending, where its first entry is message p's
unfoldable pub cells : ℕ → Row → List (ℕ × ℕ)
cells p [] = []
cells p (none ∷ r) = cells (suc p) r
cells p (some x ∷ r) = (p, x) ∷ cells (suc p) r

module _ (N K k : ℕ) where
  -- what server n makes in block b
  unfoldable pub made_by : ℕ → ℕ → TurnRows
  unfolding process
  made_by b n = get_or (get_or (process N K k) b []) n idle

  -- server n's query as rows
  unfoldable pub rows : ℕ → List Row
  unfolding flat_map by_set sets made_by range
  rows n = flat_map (λ b. by_set (sets K (suc b)) ((made_by b n).side ++ (made_by b n).wanted)) (range 0 K)

  -- server n's query as cells: at each position a message and its place
  unfoldable pub query_cells : ℕ → List (ℕ × ℕ)
  unfolding flat_map cells rows
  query_cells n = flat_map (cells 0) (rows n)

-- ---- What the server knows from N and K

-- all sets but the empty one, in the order of a query
unfoldable pub all_sets : ℕ → List (List Bool)
unfolding flat_map sets range
all_sets K = flat_map (λ b. sets K (suc b)) (range 0 K)

-- the sets of a query's rows
unfoldable pub layout : ℕ → ℕ → List (List Bool)
unfolding flat_map sets range
layout N K = flat_map (λ b. flat_map (replicate ((N - 1) ^ b)) (sets K (suc b))) (range 0 K)

-- the message at each position of a query
unfoldable pub positions : ℕ → ℕ → List ℕ
positions N K = flat_map (members 0) (layout N K)

-- whether two sets are the same
unfoldable pub alike : List Bool → List Bool → Bool
alike [] [] = true
alike [] (b ∷ B) = false
alike (a ∷ A) [] = false
alike (a ∷ A) (b ∷ B) = beq a b && alike A B

-- the number of the first row of set A among rows with these sets
unfoldable pub first_row : List Bool → List (List Bool) → ℕ
first_row A [] = 0
first_row A (B ∷ sets) = cond (alike A B) 0 (suc (first_row A sets))

-- how many rows a query has; `row-count-is` shows document 01's formula
unfoldable pub row_count : ℕ → ℕ → ℕ
unfolding sum sets range
row_count N K = sum (λ b. length (sets K (suc b)) * (N - 1) ^ b) (range 0 K)
