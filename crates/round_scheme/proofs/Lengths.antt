-- Lengths of answers: those of the rows together (`round-long`), and to every admitted query one symbol for each row, but for the row of zeros, which
-- stands in server 0's queries once and in no other's (`first-length`, `other_length`): server 0 gets it for the block whose entry in the key is 0
-- (`zero_row`). How long the answers before a row's are: `before-next` with `first-row` at server 0, and `other-before` at every other.
use Prim.Native.Nat.{ℕ, suc, ◌+◌, ◌-◌, ◌*◌, ◌≤◌, ◌<◌}
use native.Mathlib.Nat.{mul-zero, mul-one, suc-mul, le_refl}
use native.Mathlib.Numerals.{add-one}
use native.Mathlib.Omega.{arith}
use mathlib.Core.Path.{◌≡◌, refl, sym, ap, ◌∙◌}
use mathlib.Core.Bool.{Bool, true, false, cond}
use mathlib.Core.List.{List, flat_map}
use borrow.Author.Tests.{eqb-true, eqb-false, ne_eqb, eq-eqb, lt-ltb}
use lib.Dec.{eqb, ltb}
use lib.ListN.{length, get_or}
use Rattle.lists.specs.Arranged.{place_in}
use Rattle.lists.specs.Ranges.{range}
use Rattle.lists.specs.Sums.{bit, sum}
use Rattle.lists.proofs.Arranged.{Permutation, covers}
use Rattle.lists.proofs.Distinct.{times, range-times}
use Rattle.lists.proofs.Ranges.{All-range}
use Rattle.lists.proofs.Cuts.{flat_map-lengths}
use Rattle.lists.proofs.Sums.{sum-add, sum-mul, sum-next, sum-range, sum_same, sum-most, sum-grows}
use Rattle.symbol.specs.Sum.{Sum}
use Rattle.symbol.specs.Group.{KeepsLength}
use Rattle.short_scheme.specs.Short.{all_zero, short_answer_length}
use Rattle.short_scheme.proofs.Answers.{answer-long, answer-short}
use Rattle.short_scheme.specs.Rows.{DigitRow}
use Rattle.short_scheme.proofs.Queries.{zeros-server}
use Rattle.short_scheme.proofs.ZeroRow.{query-zeros, length_none, length_some}
use Rattle.parameters.specs.Bounds.{blocks}
use Rattle.round_scheme.specs.Round.{short_key, round_query, row, round_admits, row_length, length_before, row_answer, round_answer}
use Rattle.round_scheme.proofs.Numbers.{power-some, number-zero}
use Rattle.round_scheme.proofs.Queries.{admits-facts, short-number, query-row}
use Rattle.round_scheme.proofs.Exchange.{round_key, key-permutation, key-gives}
use Rattle.round_scheme.proofs.Stored.{row-stored}

module _ (sum : Sum) (N K S : ℕ) (keeps : KeepsLength sum.plus S) (store : List ℕ) (whole : length store ≡ K * (blocks N K * ((N - 1) * S)))
    (query : List ℕ) (rows : (i : ℕ) → i < blocks N K → DigitRow N K (row K query i)) where
  -- the answer to row i
  pub row-long : (i : ℕ) → i < blocks N K → length (row_answer sum N K S store query i) ≡ row_length K S query i
  unfolding row_answer row_length
  row-long i h =
      answer-long sum (blocks N K * (N - 1)) S keeps store (i * (N - 1)) (row K query i) (row-stored N K S store whole i h (row K query i) (rows i h))

  -- the answers to the rows before row i
  pub before-long : (i : ℕ) → i ≤ blocks N K → length (flat_map (row_answer sum N K S store query) (range 0 i)) ≡ length_before K S query i
  unfolding length_before
  before-long i h = flat_map-lengths (row_answer sum N K S store query) (row_length K S query) (All-range i (λ j k. row-long j (omega arith)))

  pub round-long : length (round_answer sum N K S store query) ≡ length_before K S query (blocks N K)
  unfolding round_answer
  round-long = before-long (blocks N K) (le_refl (blocks N K))

module _ (K S : ℕ) (query : List ℕ) where
  pub before-none : length_before K S query 0 ≡ 0
  unfolding length_before sum range
  before-none = refl

  -- with one row more, and with all
  pub before-next : (i : ℕ) → length_before K S query (i + 1) ≡ length_before K S query i + row_length K S query i
  unfolding length_before
  before-next i = ap (λ (n : ℕ). sum (row_length K S query) (range 0 n)) (add-one i) ∙ sum-next (row_length K S query) i

  pub before-grows : (i n : ℕ) → i < n → length_before K S query i + row_length K S query i ≤ length_before K S query n
  unfolding length_before
  before-grows i n h = sum-grows (row_length K S query) i n h

  -- one symbol at most for each row
  pub row-short : (i : ℕ) → row_length K S query i ≤ S
  unfolding row_length
  row-short i = answer-short S (row K query i)

  pub before-short : (i : ℕ) → length_before K S query i ≤ i * S
  unfolding length_before
  before-short i = sum-most (row_length K S query) S i row-short

-- every server but 0
module _ (N K S server : ℕ) (query : List ℕ) (admits : round_admits N K server query ≡ true) (other : 0 < server) where
  full : (i : ℕ) → i < blocks N K → row_length K S query i ≡ S
  unfolding row_length
  full i h = go (all_zero (row K query i)) refl
    where
      go : (t : Bool) → all_zero (row K query i) ≡ t → short_answer_length S (row K query i) ≡ S
      go true e = absurd (let w : ⊥ = omega (arith, zeros-server N K server (row K query i) ((admits-facts N K server query admits).each i h) e) in w)
      go false e = length_some S (row K query i) e

  pub other-before : (i : ℕ) → i ≤ blocks N K → length_before K S query i ≡ i * S
  unfolding length_before
  other-before i h = sum-range (row_length K S query) (λ j. S) i (λ j k. full j (omega arith)) ∙ sum_same S i

  pub other_length : length_before K S query (blocks N K) ≡ blocks N K * S
  other_length = other-before (blocks N K) (le_refl (blocks N K))

-- server 0
module _ (N K S wanted : ℕ) (some : 0 < N) (known : wanted < K) (key : List ℕ) (all : Permutation (blocks N K) key) where
  abbrev query : List ℕ
  query = round_query N K wanted 0 key

  -- row i is the row of zeros exactly if the key's entry for block i is 0
  zero-entry : (i : ℕ) → i < blocks N K → all_zero (row K query i) ≡ eqb (get_or key i 0) 0
  zero-entry i h =
      ap all_zero (query-row N K some key all wanted 0 known some i h)
      ∙ query-zeros N wanted (short_key N K key i) some
      ∙ number-zero N some (short_key N K key i)
      ∙ ap (λ v. eqb v 0) (short-number N K some key all i h)

  pub first-row : (i : ℕ) → i < blocks N K → row_length K S query i ≡ cond (eqb (get_or key i 0) 0) 0 S
  unfolding row_length short_answer_length
  first-row i h = ap (λ (t : Bool). cond t 0 S) (zero-entry i h)

  -- and that stands at one place
  zero_row : (i : ℕ) → i < blocks N K → all_zero (row K query i) ≡ eqb i (place_in 0 key)
  zero_row i h = zero-entry i h ∙ go (eqb i (place_in 0 key)) refl
    where
      there : (place_in 0 key < blocks N K) × (get_or key (place_in 0 key) 0 ≡ 0)
      there = covers (blocks N K) key all 0 (power-some N some (K - 1))

      go : (t : Bool) → eqb i (place_in 0 key) ≡ t → eqb (get_or key i 0) 0 ≡ t
      go true e = eq-eqb (get_or key i 0) 0 (ap (λ j. get_or key j 0) (eqb-true i (place_in 0 key) e) ∙ there.1)
      go false e = ne_eqb (get_or key i 0) 0 (λ z. eqb-false i (place_in 0 key) e (all.apart i (place_in 0 key) h there.0 (z ∙ sym there.1)))

  -- with a symbol for it, each row has a symbol
  padded : (i : ℕ) → i < blocks N K → row_length K S query i + S * bit (eqb i (place_in 0 key)) ≡ S
  unfolding row_length bit
  padded i h = go (eqb i (place_in 0 key)) (zero_row i h)
    where
      go : (t : Bool) → all_zero (row K query i) ≡ t → short_answer_length S (row K query i) + S * bit t ≡ S
      go true e = omega (arith, length_none S (row K query i) e, mul-one S)
      go false e = omega (arith, length_some S (row K query i) e, mul-zero S)

  together : (i : ℕ) → i ≤ blocks N K → length_before K S query i + S * bit (ltb (place_in 0 key) i) ≡ i * S
  unfolding length_before times
  together i h =
      let zeros : ℕ → ℕ = λ j. bit (eqb j (place_in 0 key)) in
      ap (λ n. sum (row_length K S query) (range 0 i) + n) (ap (λ n. S * n) (sym (range-times (place_in 0 key) i)) ∙ sym (sum-mul S zeros (range 0 i)))
      ∙ sym (sum-add (row_length K S query) (λ j. S * zeros j) (range 0 i))
      ∙ sum-range (λ j. row_length K S query j + S * zeros j) (λ j. S) i (λ j k. padded j (omega arith))
      ∙ sum_same S i

  -- all but that row together
  pub first-sent : length_before K S query (blocks N K) ≡ (blocks N K - 1) * S
  unfolding bit
  first-sent =
      let inside = (covers (blocks N K) key all 0 (power-some N some (K - 1))).0 in
      let there : ltb (place_in 0 key) (blocks N K) ≡ true = lt-ltb (place_in 0 key) (blocks N K) inside in
      let whole : length_before K S query (blocks N K) + S * 1 ≡ blocks N K * S =
      ap (λ t. length_before K S query (blocks N K) + S * bit t) (sym there) ∙ together (blocks N K) (le_refl (blocks N K)) in
      let last : suc (blocks N K - 1) ≡ blocks N K = omega (arith, power-some N some (K - 1)) in
      omega (arith, whole, mul-one S, suc-mul (blocks N K - 1) S, ap (λ n. n * S) last)

pub first-length : (N K S : ℕ) (query : List ℕ) → 0 < N → 0 < K → round_admits N K 0 query ≡ true
    → length_before K S query (blocks N K) ≡ (blocks N K - 1) * S
first-length N K S query some known admits =
    ap (λ l. length_before K S l (blocks N K)) (sym (key-gives N K 0 0 known some query admits))
    ∙ first-sent N K S 0 some known (round_key N K 0 query) (key-permutation N K 0 0 known some query admits)
