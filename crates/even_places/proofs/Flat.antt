-- A query as its cells, each a message and a place (003, Lemma 1). The places of one message, in query order, are different and below
-- N^K (`places-distinct`, `places-below`), and there are N^(K-1) (`gives-many`); so a query has K N^(K-1) positions (`query-length`),
-- each with a message and a place in bounds (`cells-inside`).
use Prim.Native.Nat.{ℕ, suc, zero, ◌+◌, ◌*◌, ◌-◌, ◌^◌, ◌≤◌, ◌<◌}
use native.Mathlib.Nat.{zero-add, add-zero, pow-le-pow_right}
use native.Mathlib.Omega.{arith}
use native.Mathlib.Decide.{ℕ_discrete, dec_lt}
use mathlib.Core.Path.{◌≡◌, refl, sym, ap, ◌∙◌, fun_ext}
use mathlib.Core.Bool.{Bool, true}
use mathlib.Core.List.{List, [], ◌∷◌, ◌++◌, map, flat_map}
use mathlib.Core.Option.{Option, none, some}
use borrow.Author.Tests.{eq-eqb, ne_eqb}
use lib.Dec.{eqb, ltb}
use lib.ListN.{length, get_or}
use Rattle.lists.specs.Below.{Below}
use Rattle.lists.specs.Distinct.{distinct}
use Rattle.lists.specs.Pairs.{under}
use Rattle.lists.specs.Ranges.{range}
use Rattle.lists.specs.Sums.{bit, keep, sum, All, all_nil, all_cons}
use Rattle.lists.proofs.Keep.{keep-flat_map}
use Rattle.lists.proofs.Joined.{map-flat_map}
use Rattle.lists.proofs.Below.{all_below-below}
use Rattle.lists.proofs.Bits.{bit-small}
use Rattle.lists.proofs.Distinct.{times, times-distinct, times_below}
use Rattle.lists.proofs.Each.{All-at, All-get, All-both, All-imp, All-flatMap, All-every, All-keep}
use Rattle.lists.proofs.Pairs.{under-cons, under_all}
use Rattle.lists.proofs.Sums.{sum-append, sum-all, sum_one, sum-flat_map, sum-swap, sum-range, sum_same, sum-map, sum-at}
use Rattle.even_places.specs.Rule.{ones_in, sets, Row, is_some, same, of_set, by_set, cells, rows, query_cells}
use Rattle.even_places.specs.Counting.{side_rows, wanted_rows, block, counted_rows}
use Rattle.even_places.proofs.Process.{rows-by-counting}
use Rattle.even_places.proofs.Rows.{below, below-lt, below-ge, is, hit, gives}
use Rattle.even_places.proofs.BlockRows.{block-fits}
use Rattle.even_places.proofs.Totals.{other-once, other-many, wanted-apart, wanted-many}
use Rattle.even_places.proofs.Order.{held, places_of}
use Rattle.even_places.proofs.SetLaws.{set_of, cells-length}

-- ---- the cells of rows, message by message

cells_low : (r : Row) (q p : ℕ) → p < q → under p (cells q r) ≡ []
unfolding cells under keep
cells_low [] q p h = refl
cells_low (none ∷ r) q p h = cells_low r (suc q) p (omega arith)
cells_low (some x ∷ r) q p h = under-cons p q x (cells (suc q) r) ∙ rw (ne_eqb q p (λ e. let w : ⊥ = omega arith in w)) (cells_low r (suc q) p (omega arith))

cells-under : (r : Row) (q p : ℕ) → under (q + p) (cells q r) ≡ held (get_or r p none)
unfolding cells under keep held
cells-under [] q p = refl
cells-under (none ∷ r) q zero = cells_low r (suc q) (q + 0) (omega arith)
cells-under (none ∷ r) q (suc p) = ap (λ s. under s (cells (suc q) r)) (shift q p) ∙ cells-under r (suc q) p
  where
    shift : (a b : ℕ) → a + suc b ≡ suc a + b
    shift a b = omega arith
cells-under (some x ∷ r) q zero =
    under-cons (q + 0) q x (cells (suc q) r) ∙ rw (eq-eqb q (q + 0) (sym (add-zero q))) (ap (λ l. x ∷ l) (cells_low r (suc q) (q + 0) (omega arith)))
cells-under (some x ∷ r) q (suc p) =
    under-cons (q + suc p) q x (cells (suc q) r)
    ∙ rw (ne_eqb q (q + suc p) (λ e. let w : ⊥ = omega arith in w)) (ap (λ s. under s (cells (suc q) r)) (shift q p) ∙ cells-under r (suc q) p)
  where
    shift : (a b : ℕ) → a + suc b ≡ suc a + b
    shift a b = omega arith

-- the messages of a row's cells
pub cells-messages : (r : Row) (q : ℕ) → All (λ cell. cell.0 < q + length r) (cells q r)
unfolding cells
cells-messages [] q = all_nil
cells-messages (none ∷ r) q = All-imp (λ cell h. omega (arith, h)) (cells-messages r (suc q))
cells-messages (some x ∷ r) q = all_cons {x = (q, x)} (omega arith) (All-imp (λ cell h. omega (arith, h)) (cells-messages r (suc q)))

cells-given : (r : Row) (q : ℕ) → length (cells q r) ≡ sum (λ p. gives p r) (range 0 (length r))
unfolding ones_in set_of gives
cells-given r q = cells-length q r ∙ sum-map bit is_some r ∙ sum-at (λ x. bit (is_some x)) none r

places-times : (p v : ℕ) (rs : List Row) → times v (places_of p rs) ≡ sum (hit p v) rs
unfolding times places_of sum hit is
places-times p v [] = refl
places-times p v (r ∷ rs) = sum-append (λ x. bit (eqb x v)) (held (get_or r p none)) (places_of p rs) ∙ omega (arith, go (get_or r p none), places-times p v rs)
  where
    go : (o : Option ℕ) → sum (λ x. bit (eqb x v)) (held o) ≡ is v o
    go none = refl
    go (some x) = omega arith

below-mono : (v m n : ℕ) → m ≤ n → below v m ≤ below v n
below-mono v m n le = go (dec_lt v m)
  where
    go : Dec (v < m) → below v m ≤ below v n
    go (yes h) = omega (arith, below-lt v m h, below-lt v n (omega arith))
    go (no h) = omega (arith, below-ge v m (omega arith))

below_one : (v n : ℕ) → below v n ≤ 1
unfolding below
below_one v n = omega (arith, bit-small (ltb v n))

-- ---- a server's query

module _ (N K k : ℕ) (wide : 1 < N) (known : k < K) where
  pub rows_long : (n : ℕ) → n < N → All (λ r. length r ≡ K) (rows N K k n)
  unfolding counted_rows by_set of_set block
  rows_long n there =
      rw (rows-by-counting N K k wide known n there)
      (All-flatMap (λ b. by_set (sets K (suc b)) (block N K k b n))
      (All-every (λ b. All-flatMap (λ A. of_set A (block N K k b n)) (All-every (of-set b) (sets K (suc b)))) (range 0 K)))
    where
      of-set : (b : ℕ) (A : List Bool) → All (λ r. length r ≡ K) (keep (same A) (side_rows N K k b n ++ wanted_rows N K k b n))
      of-set b A = All-imp (λ r h. h.0.long) (All-keep (same A) (block-fits N K k wide known b n))

  -- a message's places in the cells are those in the rows
  query-places : (p n : ℕ) → under p (query_cells N K k n) ≡ places_of p (rows N K k n)
  unfolding query_cells under places_of
  query-places p n =
      ap (map (λ e. e.1)) (keep-flat_map (λ e. eqb e.0 p) (cells 0) (rows N K k n))
      ∙ map-flat_map (λ e. e.1) (λ r. keep (λ e. eqb e.0 p) (cells 0 r)) (rows N K k n)
      ∙ ap (λ g. flat_map g (rows N K k n)) (fun_ext (λ r. ap (λ s. under s (cells 0 r)) (sym (zero-add p)) ∙ cells-under r 0 p))

  gives-many : (p n : ℕ) → p < K → n < N → sum (gives p) (rows N K k n) ≡ N ^ (K - 1)
  gives-many p n hp l = go (ℕ_discrete p k)
    where
      go : Dec (p ≡ k) → sum (gives p) (rows N K k n) ≡ N ^ (K - 1)
      go (yes e) = rw e (wanted-many N K k wide known n l)
      go (no d) = other-many N K k wide known p n hp d l

  module _ (n : ℕ) (there : n < N) where
    --  each place of a message stands once at most in a query, and none from N^K on
    at_most : (p v : ℕ) → p < K → times v (under p (query_cells N K k n)) ≤ below v (N ^ K)
    at_most p v hp = rw (query-places p n) (go (ℕ_discrete p k))
      where
        go : Dec (p ≡ k) → times v (places_of p (rows N K k n)) ≤ below v (N ^ K)
        go (yes e) = rw e (omega (arith, places-times k v (rows N K k n), wanted-apart N K k wide known v n there))
        go (no d) =
            omega (
              arith,
              places-times p v (rows N K k n),
              other-once N K k wide known p v n hp d there,
              below-mono v (N ^ (K - 1)) (N ^ K) (pow-le-pow_right {n = N} (omega arith) {i = K - 1} {j = K} (omega arith)),
            )

    pub places-below : (p : ℕ) → p < K → Below (N ^ K) (under p (query_cells N K k n))
    unfolding below
    places-below p hp = all_below-below (N ^ K) (under p (query_cells N K k n)) (times_below (N ^ K) (under p (query_cells N K k n)) (λ v. at_most p v hp))

    pub places-distinct : (p : ℕ) → p < K → distinct (under p (query_cells N K k n)) ≡ true
    places-distinct p hp = times-distinct (under p (query_cells N K k n)) (λ v. omega (arith, at_most p v hp, below_one v (N ^ K)))

    cells-known : All (λ cell. cell.0 < K) (query_cells N K k n)
    unfolding query_cells
    cells-known = All-flatMap (cells 0) (All-imp (λ r e. All-imp (λ cell h. omega (arith, h, e)) (cells-messages r 0)) (rows_long n there))

    pub cells-inside : All (λ cell. (cell.0 < K) × (cell.1 < N ^ K)) (query_cells N K k n)
    cells-inside = All-both cells-known (under_all K cells-known (λ p hp. All-at 0 (under p (query_cells N K k n)) (places-below p hp)))

    pub query-length : length (query_cells N K k n) ≡ K * N ^ (K - 1)
    unfolding query_cells
    query-length =
        sym (sum_one (query_cells N K k n))
        ∙ sum-flat_map (λ e. 1) (cells 0) (rows N K k n)
        ∙ sum-all (λ r. sum (λ e. 1) (cells 0 r)) (λ r. sum (λ p. gives p r) (range 0 K))
        (All-imp (λ r e. sum_one (cells 0 r) ∙ cells-given r 0 ∙ ap (λ j. sum (λ p. gives p r) (range 0 j)) e) (rows_long n there))
        ∙ sum-swap (λ r p. gives p r) (rows N K k n) (range 0 K)
        ∙ sum-range (λ p. sum (gives p) (rows N K k n)) (λ p. N ^ (K - 1)) K (λ p hp. gives-many p n hp there)
        ∙ sum_same (N ^ (K - 1)) K

  -- by position
  pub inside : (n i : ℕ) → n < N → i < length (query_cells N K k n)
      → ((get_or (query_cells N K k n) i (0, 0)).0 < K) × ((get_or (query_cells N K k n) i (0, 0)).1 < N ^ K)
  inside n i l h = All-get {P = λ cell. (cell.0 < K) × (cell.1 < N ^ K)} (0, 0) (cells-inside n l) i h
