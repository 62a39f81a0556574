-- Answers: their lengths (`answer-long`, `answer-short`), and that an answer, an empty one counting as zeros, is the total of the named
-- symbols (`answer-total`).
use mathlib.Core.Path.{◌≡◌, refl, sym, ap, ◌∙◌}
use mathlib.Core.Bool.{Bool, true, false}
use mathlib.Core.List.{List, [], ◌∷◌}
use Prim.Native.Nat.{ℕ, zero, suc, ◌+◌, ◌-◌, ◌*◌, ◌≤◌, ◌<◌}
use native.Mathlib.Nat.{not-suc-le-zero}
use native.Mathlib.Omega.{arith}
use lib.ListN.{length, length-replicate}
use Rattle.symbol.specs.Sum.{Sum, zeros, symbol_at, total_from, total}
use Rattle.symbol.specs.Group.{KeepsLength}
use Rattle.short_scheme.specs.Short.{all_zero, named, or_zeros, short_answer_length, strided_answer, short_answer}
use Rattle.short_scheme.specs.Rows.{DigitRow, RowStored}
use Rattle.short_scheme.proofs.Named.{stored-first, stored-rest, query-stored}
use Rattle.short_scheme.proofs.Offsets.{symbol-length}
use Rattle.short_scheme.proofs.ZeroRow.{length_none, length_some, answer-none, answer-some, named-zeros}

-- an answer that is not empty counts as it is
pub or-zeros-some : (S : ℕ) (answer : List ℕ) → 0 < length answer → or_zeros S answer ≡ answer
unfolding or_zeros
or-zeros-some S [] h = absurd (not-suc-le-zero h)
or-zeros-some S (x ∷ answer) h = refl

module _ (sum : Sum) (stride S : ℕ) (keeps : KeepsLength sum.plus S) (store : List ℕ) where
  from-length : (start : List ℕ) (first : ℕ) (row : List ℕ) → length start ≡ S → RowStored first stride S store row
      → length (total_from sum start (named first stride S store row)) ≡ S
  unfolding total_from named
  from-length start first [] l r = l
  from-length start first (zero ∷ row) l r = from-length start (first + stride) row l (stored-rest stride S store first 0 row r)
  from-length start first (suc d ∷ row) l r =
      from-length (sum.plus start (symbol_at S store (first + d))) (first + stride) row
      (keeps start (symbol_at S store (first + d)) l (symbol-length S store first d (stored-first stride S store first (suc d) row r)))
      (stored-rest stride S store first (suc d) row r)

  total-length : (first : ℕ) (row : List ℕ) → RowStored first stride S store row → length (total sum S (named first stride S store row)) ≡ S
  unfolding total
  total-length first row r = from-length (zeros S) first row (length-replicate S 0) r

  pub answer-long : (first : ℕ) (row : List ℕ) → RowStored first stride S store row
      → length (strided_answer sum first stride S store row) ≡ short_answer_length S row
  answer-long first row r = go (all_zero row) refl
    where
      go : (t : Bool) → all_zero row ≡ t → length (strided_answer sum first stride S store row) ≡ short_answer_length S row
      go true e = ap length (answer-none sum first stride S store row e) ∙ sym (length_none S row e)
      go false e = ap length (answer-some sum first stride S store row e) ∙ total-length first row r ∙ sym (length_some S row e)

  -- what recovery counts an answer as
  pub answer-total : (first : ℕ) (row : List ℕ) → 0 < S → RowStored first stride S store row
      → or_zeros S (strided_answer sum first stride S store row) ≡ total sum S (named first stride S store row)
  unfolding or_zeros total total_from
  answer-total first row some r = go (all_zero row) refl
    where
      go : (t : Bool) → all_zero row ≡ t → or_zeros S (strided_answer sum first stride S store row) ≡ total sum S (named first stride S store row)
      go true e =
          ap (or_zeros S) (answer-none sum first stride S store row e) ∙ ap (total sum S) (sym (named-zeros first stride S store row e))
      go false e =
          ap (or_zeros S) (answer-some sum first stride S store row e)
          ∙ or-zeros-some S (total sum S (named first stride S store row)) (omega (arith, total-length first row r))

-- the answer to a row that a server of the short code admits
pub short-answer-long : (sum : Sum) (N K S : ℕ) → KeepsLength sum.plus S → (store : List ℕ) → length store ≡ K * ((N - 1) * S) → (query : List ℕ)
    → DigitRow N K query → length (short_answer sum N S store query) ≡ short_answer_length S query
unfolding short_answer
short-answer-long sum N K S keeps store whole query row =
    answer-long sum (N - 1) S keeps store 0 query (query-stored N K S store query whole row)

-- the row of zeros is answered with no bytes, and any other with one symbol at most
pub answer-short : (S : ℕ) (query : List ℕ) → short_answer_length S query ≤ S
answer-short S query = go (all_zero query) refl
  where
    go : (t : Bool) → all_zero query ≡ t → short_answer_length S query ≤ S
    go true e = omega (arith, length_none S query e)
    go false e = omega (arith, length_some S query e)
