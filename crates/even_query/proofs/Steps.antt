-- What the steps of a query rest on: a place read off the tables (`place_read`), a row's origin by its set's byte (`origin-byte`), and
-- one row or set more.
use Prim.Native.Nat.{ℕ, suc, ◌+◌, ◌-◌, ◌*◌, ◌/◌, ◌%◌, ◌^◌, ◌≤◌, ◌<◌}
use native.Mathlib.Nat.{one-mul, mul-le-mul, one-le-pow, pow-succ', div-lt_iff_lt-mul}
use native.Mathlib.Omega.{arith}
use mathlib.Core.Path.{◌≡◌, sym, ap, ap₂, ◌∙◌}
use mathlib.Core.Bool.{Bool, true, false, cond, ◌&&◌}
use mathlib.Core.List.{List}
use borrow.Author.Tests.{ltb-true}
use lib.Arith.{digits_div, digits_mod}
use lib.Count.{ones as count}
use lib.Dec.{eqb, ltb}
use lib.ListN.{length, get_or}
use Rattle.lists.specs.Sums.{bit}
use Rattle.lists.proofs.Bits.{bit_test}
use Rattle.lists.proofs.Both.{both_true}
use Rattle.lists.proofs.Mapped.{mapped-length, mapped_at}
use Rattle.even_places.specs.Rule.{has, ones_in}
use Rattle.even_places.proofs.Bytes.{byte-has}
use Rattle.even_places.proofs.AllSets.{ones-most}
use Rattle.even_sets.specs.Sets.{set_in}
use Rattle.even_sets.proofs.SetBytes.{set_in-length}
use Rattle.even_ranks.specs.Counts.{Stands, takers, taken, taken_table}
use Rattle.even_ranks.specs.Walk.{place_among, plain, joined, is_joined, origin_of}
use Rattle.even_ranks.proofs.Steps.{stands-count}
use Rattle.even_query.specs.Query.{Tables, OriginWithin}

table_at : (N k b p : ℕ) (totals : List ℕ) → b < 8 → p < 8 → get_or (taken_table N k totals) (b * 8 + p) 0 ≡ taken N k totals b p
unfolding taken_table
table_at N k b p totals hb hp =
    mapped_at (λ j. taken N k totals (j / 8) (j % 8)) 0 64 (b * 8 + p) (omega arith)
    ∙ rw (digits_div b {m = 8} hp, digits_mod b {m = 8} hp)

pub table-length : (N k : ℕ) (totals : List ℕ) → length (taken_table N k totals) ≡ 64
unfolding taken_table
table-length N k totals = mapped-length (λ j. taken N k totals (j / 8) (j % 8)) 0 64

-- the place that the code computes from the tables
pub place_read : (N k b p rows turn rank number : ℕ) (totals table : List ℕ) → Tables N k totals table → b < 8 → p < 8
    → N * get_or table (b * 8 + p) 0 + rows * (turn * takers k totals b p + rank) + number ≡ place_among N k totals b p rows turn rank number
unfolding place_among
place_read N k b p rows turn rank number totals table t hb hp =
    ap (λ s. N * s + rows * (turn * takers k totals b p + rank) + number) (ap (λ l. get_or l (b * 8 + p) 0) t.filled ∙ table_at N k b p totals hb hp)

factor-small : (rows x : ℕ) → 1 ≤ rows → x ≤ rows * x
factor-small rows x h = omega (arith, one-mul x, mul-le-mul h (let w : x ≤ x = omega arith in w))

-- no part of a small place is larger
pub record Parts (N t rows turn T rank number : ℕ) : Type 0 where
  pub first : N * t < 256
  pub turns : turn * T < 256
  pub sets : turn * T + rank < 256
  pub scaled : rows * (turn * T + rank) < 256
  pub sum : N * t + rows * (turn * T + rank) < 256
  pub whole : N * t + rows * (turn * T + rank) + number < 256

parts : (N t rows turn T rank number : ℕ) → 1 ≤ rows → N * t + rows * (turn * T + rank) + number < 256 → Parts N t rows turn T rank number
parts N t rows turn T rank number h small =
    let scaled = factor-small rows (turn * T + rank) h in
    record { first = omega arith; turns = omega arith; sets = omega arith; scaled = omega arith; sum = omega arith; whole = small }

pub place-parts : (N k b p rows turn rank number : ℕ) (totals table : List ℕ) → Tables N k totals table → b < 8 → p < 8 → 1 ≤ rows
    → place_among N k totals b p rows turn rank number < 256 → Parts N (get_or table (b * 8 + p) 0) rows turn (takers k totals b p) rank number
place-parts N k b p rows turn rank number totals table t hb hp some small =
    parts N (get_or table (b * 8 + p) 0) rows turn (takers k totals b p) rank number some
    (omega (arith, place_read N k b p rows turn rank number totals table t hb hp))

-- the rows of the block before, of a set of m messages, and which of the other servers row i is joined from
pub record Before (N m i : ℕ) : Type 0 where
  pub some : 1 ≤ (N - 1) ^ (m - 2)
  pub most : (N - 1) ^ (m - 2) ≤ (N - 1) ^ (m - 1)
  pub other : i / (N - 1) ^ (m - 2) < N - 1

pub rows_before : (N m i : ℕ) → 2 ≤ N → 2 ≤ m → i < (N - 1) ^ (m - 1) → Before N m i
rows_before N m i wide many h =
    let next : m - 1 ≡ suc (m - 2) = omega arith in
    let times : (N - 1) ^ (m - 1) ≡ (N - 1) * (N - 1) ^ (m - 2) = ap (λ (j : ℕ). (N - 1) ^ j) next ∙ pow-succ' (N - 1) (m - 2) in
    let some = one-le-pow (m - 2) (N - 1) (omega arith) in
    record {
      some = some;
      most = omega (arith, times, factor-small (N - 1) ((N - 1) ^ (m - 2)) (omega arith));
      other = (div-lt_iff_lt-mul some).1 (omega (arith, times));
    }

-- ---- Origins by a set's byte

-- joined rows have two messages at least
pub joined-two : (t : Bool) (m : ℕ) → t && ltb 1 m ≡ true → 2 ≤ m
joined-two t m e = ltb-true 1 m (both_true t (ltb 1 m) e).1

module _ (K k byte : ℕ) (stands : Stands K byte) where
  joined-byte : eqb (byte / 2 ^ k % 2) 1 && ltb 1 (count byte) ≡ is_joined k (set_in K byte)
  unfolding is_joined bit
  joined-byte =
      ap₂ (λ (t : Bool) (m : ℕ). t && ltb 1 m)
      (ap (λ (x : ℕ). eqb (x / 2 ^ k % 2) 1) (sym stands.encoded) ∙ ap (λ (x : ℕ). eqb x 1) (byte-has (set_in K byte) k) ∙ bit_test (has k (set_in K byte)))
      (stands-count K byte stands)

  pub origin-byte : (N server i : ℕ)
      → cond (eqb (byte / 2 ^ k % 2) 1 && ltb 1 (count byte)) (joined N server (count byte) i) (plain N server (count byte) i)
      ≡ origin_of N k server (set_in K byte) i
  unfolding origin_of
  origin-byte N server i = rw (joined-byte, stands-count K byte stands)

  pub origin-within : (N server i : ℕ) → 2 ≤ N → K ≤ 8 → OriginWithin (origin_of N k server (set_in K byte) i)
  unfolding origin_of plain joined
  origin-within N server i wide few = go (is_joined k (set_in K byte))
    where
      A : List Bool
      A = set_in K byte

      most : ones_in A ≤ 8
      most = omega (arith, ones-most A, set_in-length K byte)

      go : (t : Bool) → OriginWithin (cond t (joined N server (ones_in A) i) (plain N server (ones_in A) i))
      go true =
          record { block-low = omega (arith, most, stands.some); source-low = omega (arith, most); some = one-le-pow (ones_in A - 2) (N - 1) (omega arith) }
      go false =
          record {
            block-low = omega (arith, most, stands.some);
            source-low = omega (arith, most, stands.some);
            some = one-le-pow (ones_in A - 1) (N - 1) (omega arith);
          }
