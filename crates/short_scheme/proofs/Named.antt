-- The symbols that the digits of a row name: whole symbols, if the row is stored (`named-symbols`), and those of a row with one digit
-- inserted (`named_none`, `named-one`). The rows of a whole store of the short code are stored: `query-stored`.
use mathlib.Core.Path.{◌≡◌, sym, ap, ◌∙◌}
use mathlib.Core.List.{List, [], ◌∷◌, ◌++◌}
use Prim.Native.Nat.{ℕ, zero, suc, ◌+◌, ◌-◌, ◌*◌, ◌≤◌}
use native.Mathlib.Nat.{suc-mul, add-mul, le_of_eq, le_trans}
use native.Mathlib.Omega.{arith}
use lib.ListN.{length, get_or, take, drop}
use lib.Seq.{length-take-le}
use Rattle.lists.specs.Below.{Below}
use Rattle.lists.specs.Inserts.{insert_at}
use Rattle.lists.proofs.Below.{all_below-below, below-take, below-drop}
use Rattle.symbol.specs.Sum.{Symbol, symbol_at}
use Rattle.lists.specs.Sums.{all_nil, all_cons}
use Rattle.symbol.specs.Group.{Symbols}
use Rattle.short_scheme.specs.Short.{named}
use Rattle.short_scheme.specs.Rows.{DigitRow, RowStored}
use Rattle.short_scheme.proofs.Offsets.{digit-within, symbol-length}

-- one message further
next-message : (first stride n : ℕ) → first + stride + n * stride ≡ first + suc n * stride
next-message first stride n = omega (arith, suc-mul n stride)

-- joined rows
named-append : (first stride S : ℕ) (store row next : List ℕ)
    → named first stride S store (row ++ next) ≡ named first stride S store row ++ named (first + length row * stride) stride S store next
unfolding named
named-append first stride S store [] next =
    ap (λ (n : ℕ). named n stride S store next) (let e : first ≡ first + 0 * stride = omega arith in e)
named-append first stride S store (zero ∷ row) next =
    named-append (first + stride) stride S store row next
    ∙ ap (λ (n : ℕ). named (first + stride) stride S store row ++ named n stride S store next) (next-message first stride (length row))
named-append first stride S store (suc d ∷ row) next =
    ap (λ (xs : List (List ℕ)). symbol_at S store (first + d) ∷ xs)
    (named-append (first + stride) stride S store row next
    ∙ ap (λ (n : ℕ). named (first + stride) stride S store row ++ named n stride S store next) (next-message first stride (length row)))

-- what the digits before the inserted one name, and those behind it
abbrev pub named_before : ℕ → ℕ → ℕ → List ℕ → ℕ → List ℕ → List (List ℕ)
named_before first stride S store at key = named first stride S store (take at key)

abbrev pub named_behind : ℕ → ℕ → ℕ → List ℕ → ℕ → List ℕ → List (List ℕ)
named_behind first stride S store at key = named (first + at * stride + stride) stride S store (drop at key)

module _ (first stride S : ℕ) (store : List ℕ) (at : ℕ) (key : List ℕ) (within : at ≤ length key) where
  split : (d : ℕ) → named first stride S store (insert_at at d key)
      ≡ named_before first stride S store at key ++ named (first + at * stride) stride S store (d ∷ drop at key)
  split d =
      named-append first stride S store (take at key) (d ∷ drop at key)
      ∙ ap (λ (n : ℕ). named_before first stride S store at key ++ named (first + n * stride) stride S store (d ∷ drop at key))
      (length-take-le at key within)

  -- digit 0 adds nothing, another digit its symbol
  pub named_none : named first stride S store (insert_at at 0 key)
      ≡ named_before first stride S store at key ++ named_behind first stride S store at key
  unfolding named
  named_none = split 0

  pub named-one : (d : ℕ) → named first stride S store (insert_at at (suc d) key)
      ≡ named_before first stride S store at key
      ++ (symbol_at S store (first + at * stride + d) ∷ named_behind first stride S store at key)
  unfolding named
  named-one d = split (suc d)

module _ (stride S : ℕ) (store : List ℕ) where
  -- the first digit of a stored row, and the others
  pub stored-first : (first d : ℕ) (row : List ℕ) → RowStored first stride S store (d ∷ row) → (first + d) * S ≤ length store
  stored-first first d row r =
      le_trans (le_of_eq (ap (λ (n : ℕ). (n + d) * S) (let e : first ≡ first + 0 * stride = omega arith in e))) (r.stored 0 (omega arith))

  pub stored-rest : (first d : ℕ) (row : List ℕ) → RowStored first stride S store (d ∷ row) → RowStored (first + stride) stride S store row
  stored-rest first d row r = record {
    stored = λ p h.
        le_trans (le_of_eq (ap (λ (n : ℕ). (n + get_or row p 0) * S) (next-message first stride p))) (r.stored (suc p) (omega arith));
  }

  pub symbol-whole : Below 256 store → (first d : ℕ) → (first + suc d) * S ≤ length store → Symbol S (symbol_at S store (first + d))
  symbol-whole bytes first d h = record {
    long = symbol-length S store first d h;
    bytes = below-take 256 S (drop ((first + d) * S) store) (below-drop 256 ((first + d) * S) store bytes);
  }

  pub named-symbols : Below 256 store → (first : ℕ) (row : List ℕ) → RowStored first stride S store row → Symbols S (named first stride S store row)
  unfolding named
  named-symbols bytes first [] r = all_nil
  named-symbols bytes first (zero ∷ row) r = named-symbols bytes (first + stride) row (stored-rest first 0 row r)
  named-symbols bytes first (suc d ∷ row) r =
      all_cons (symbol-whole bytes first d (stored-first first (suc d) row r))
      (named-symbols bytes (first + stride) row (stored-rest first (suc d) row r))

-- digits below N of the messages from p on, of K messages of N - 1 symbols
pub digits-stored : (N K S : ℕ) (store : List ℕ) → length store ≡ K * ((N - 1) * S) → (first p : ℕ) → first ≡ p * (N - 1) → (row : List ℕ)
    → p + length row ≤ K → Below N row → RowStored first (N - 1) S store row
digits-stored N K S store whole first p e row h b = record {
  stored = λ q l.
      let at : first + q * (N - 1) ≡ (p + q) * (N - 1) = ap (λ (n : ℕ). n + q * (N - 1)) e ∙ sym (add-mul p q (N - 1)) in
      le_trans (le_of_eq (ap (λ (n : ℕ). (n + get_or row q 0) * S) at))
      (le_trans (digit-within N K S (p + q) (get_or row q 0) (omega arith) (b q l)) (le_of_eq (sym whole)));
}

pub query-stored : (N K S : ℕ) (store query : List ℕ) → length store ≡ K * ((N - 1) * S) → DigitRow N K query → RowStored 0 (N - 1) S store query
query-stored N K S store query whole row =
    digits-stored N K S store whole 0 0 (omega arith) query (omega (arith, row.long)) (all_below-below N query row.digits)
