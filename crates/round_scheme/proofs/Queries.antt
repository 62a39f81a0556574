-- Queries: what a server admits (`admits-facts`, `facts-admit`), the rows of a key's query (`query-row`, `row-key`), and that the server
-- admits it (`query-admitted`).
use Prim.Native.Nat.{ℕ, ◌-◌, ◌*◌, ◌≤◌, ◌<◌}
use native.Mathlib.Nat.{zero-add, le_refl}
use native.Mathlib.Omega.{arith}
use mathlib.Core.Path.{◌≡◌, sym, ap, ◌∙◌}
use mathlib.Core.Bool.{true, ◌&&◌}
use mathlib.Core.List.{List, map, flat_map}
use borrow.Author.Tests.{eqb-true, eq-eqb}
use lib.Dec.{eqb}
use lib.ListN.{length, get_or}
use Rattle.lists.specs.Below.{all_below}
use Rattle.lists.specs.Distinct.{distinct}
use Rattle.lists.specs.Inserts.{remove_at}
use Rattle.lists.specs.Ranges.{range, every}
use Rattle.lists.proofs.Arranged.{Permutation}
use Rattle.lists.proofs.Below.{all_below-below, below-all_below}
use Rattle.lists.proofs.Both.{both_true, true-both}
use Rattle.lists.proofs.Cuts.{flat_map-cut}
use Rattle.lists.proofs.Distinct.{distinct_apart, apart_distinct}
use Rattle.lists.proofs.Every.{every-at, every_true}
use Rattle.lists.proofs.Joined.{flat_map-size}
use Rattle.lists.proofs.Mapped.{mapped-length, mapped_at}
use Rattle.lists.proofs.Ranges.{range_length, range_at, All-range}
use Rattle.short_scheme.specs.Short.{short_query, short_admits}
use Rattle.short_scheme.specs.Rows.{DigitRow}
use Rattle.short_scheme.proofs.Queries.{admits-row, query-long, query-admits, query-key}
use Rattle.parameters.specs.Bounds.{blocks}
use Rattle.round_scheme.specs.Round.{digits, number, short_key, round_query, row, round_admits}
use Rattle.round_scheme.proofs.Numbers.{digits-length, digits-below, number_digits, number-only}

-- what a server admits: the server's short-code rows, no two the same
pub record AdmittedRows (N K server : ℕ) (query : List ℕ) : Type 0 where
  pub long : length query ≡ blocks N K * K
  pub each : (i : ℕ) → i < blocks N K → short_admits N K server (row K query i) ≡ true
  pub apart : (i j : ℕ) → i < blocks N K → j < blocks N K → row K query i ≡ row K query j → i ≡ j

module _ (N K server : ℕ) (query : List ℕ) where
  abbrev row_number : ℕ → ℕ
  row_number i = number N (row K query i)

  numbers-length : length (map row_number (range 0 (blocks N K))) ≡ blocks N K
  numbers-length = mapped-length row_number 0 (blocks N K)

  number_at : (i : ℕ) → i < blocks N K → get_or (map row_number (range 0 (blocks N K))) i 0 ≡ row_number i
  number_at i h = mapped_at row_number 0 (blocks N K) i h

  pub admits-facts : round_admits N K server query ≡ true → AdmittedRows N K server query
  unfolding round_admits
  admits-facts e =
      let rows = every (blocks N K) (λ i. short_admits N K server (row K query i)) in
      let other = distinct (map row_number (range 0 (blocks N K))) in
      let p = both_true (eqb (length query) (blocks N K * K)) (rows && other) e in
      let q = both_true rows other p.1 in
      record {
        long = eqb-true (length query) (blocks N K * K) p.0;
        each = every-at (blocks N K) (λ i. short_admits N K server (row K query i)) q.0;
        apart = λ i j h k same.
            distinct_apart (map row_number (range 0 (blocks N K))) q.1 i j (omega (arith, numbers-length)) (omega (arith, numbers-length))
            (number_at i h ∙ ap (number N) same ∙ sym (number_at j k));
      }

  pub admitted-rows : round_admits N K server query ≡ true → (i : ℕ) → i < blocks N K → DigitRow N K (row K query i)
  admitted-rows e i h = admits-row N K server (row K query i) ((admits-facts e).each i h)

  pub facts-admit : 0 < N → AdmittedRows N K server query → round_admits N K server query ≡ true
  unfolding round_admits
  facts-admit some a =
      true-both (eq-eqb (length query) (blocks N K * K) a.long)
      (true-both (every_true (blocks N K) (λ i. short_admits N K server (row K query i)) a.each)
      (apart_distinct (map row_number (range 0 (blocks N K))) (λ i j h k same.
      let i' : i < blocks N K = omega (arith, numbers-length) in
      let j' : j < blocks N K = omega (arith, numbers-length) in
      let x = admits-row N K server (row K query i) (a.each i i') in
      let y = admits-row N K server (row K query j) (a.each j j') in
      a.apart i j i' j'
      (number-only N some (row K query i) (row K query j) (all_below-below N (row K query i) x.digits) (all_below-below N (row K query j) y.digits)
      (x.long ∙ sym y.long) (sym (number_at i i') ∙ same ∙ number_at j j')))))

-- the short keys of a key
module _ (N K : ℕ) (some : 0 < N) (key : List ℕ) (all : Permutation (blocks N K) key) where
  pub short-long : (i : ℕ) → length (short_key N K key i) ≡ K - 1
  unfolding short_key
  short-long i = digits-length N (K - 1) (get_or key i 0)

  pub short-good : (i : ℕ) → i < blocks N K → all_below N (short_key N K key i) ≡ true
  unfolding short_key
  short-good i h = below-all_below N (digits N (K - 1) (get_or key i 0)) (digits-below N some (K - 1) (get_or key i 0) (all.low i h))

  pub short-number : (i : ℕ) → i < blocks N K → number N (short_key N K key i) ≡ get_or key i 0
  unfolding short_key
  short-number i h = number_digits N some (K - 1) (get_or key i 0) (all.low i h)

  module _ (wanted server : ℕ) (known : wanted < K) (there : server < N) where
    abbrev asked : ℕ → List ℕ
    asked i = short_query N wanted server (short_key N K key i)

    pub asked-long : (i : ℕ) → i < blocks N K → length (asked i) ≡ K
    asked-long i h = query-long N K wanted server (short_key N K key i) known there (short-long i) (short-good i h)

    -- the rows before row i together
    pub rows_long : (i : ℕ) → i ≤ blocks N K → length (flat_map asked (range 0 i)) ≡ i * K
    rows_long i h = flat_map-size asked K (All-range i (λ j k. asked-long j (omega arith))) ∙ ap (λ n. n * K) (range_length 0 i)

    pub query-length : length (round_query N K wanted server key) ≡ blocks N K * K
    unfolding round_query
    query-length = rows_long (blocks N K) (le_refl (blocks N K))

    -- row i is the short query of block i
    pub query-row : (i : ℕ) → i < blocks N K → row K (round_query N K wanted server key) i ≡ asked i
    unfolding round_query row
    query-row i h =
        flat_map-cut asked K 0 (All-range (blocks N K) asked-long) i (omega (arith, range_length 0 (blocks N K)))
        ∙ ap asked (range_at 0 (blocks N K) i 0 h ∙ zero-add i)

    -- without the balancing digit it is the short key
    pub row-key : (i : ℕ) → i < blocks N K → remove_at wanted (row K (round_query N K wanted server key) i) ≡ short_key N K key i
    row-key i h = ap (remove_at wanted) (query-row i h) ∙ query-key N K wanted server (short_key N K key i) known there (short-long i) (short-good i h)

    pub query-admitted : round_admits N K server (round_query N K wanted server key) ≡ true
    query-admitted =
        let query = round_query N K wanted server key in
        facts-admit N K server query some (record {
          long = query-length;
          each = λ i h.
              ap (short_admits N K server) (query-row i h)
              ∙ query-admits N K wanted server (short_key N K key i) known there (short-long i) (short-good i h);
          apart = λ i j h k same.
              all.apart i j h k
              (sym (short-number i h) ∙ ap (number N) (sym (row-key i h) ∙ ap (remove_at wanted) same ∙ row-key j k) ∙ short-number j k);
        })
