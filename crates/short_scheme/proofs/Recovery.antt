-- Recovery: server (d + T) modulo N is asked for what server T is asked for and the symbol of digit d besides, so the difference of
-- their answers is that symbol (`found`), and the symbols together are what the store holds there, wherever the messages lie: `row-recovered`, and
-- `message-recovered` for the short code. Only the laws of an abelian group are used.
use mathlib.Core.Path.{◌≡◌, ap, ap₂, ◌∙◌}
use mathlib.Core.Bool.{true}
use mathlib.Core.List.{List, [], ◌∷◌, ◌++◌}
use Prim.Native.Nat.{ℕ, suc, ◌+◌, ◌-◌, ◌*◌, ◌%◌, ◌≤◌, ◌<◌}
use native.Mathlib.Nat.{zero-add, add_comm, mod-lt, mul_assoc}
use native.Mathlib.Numerals.{add-one}
use native.Mathlib.Omega.{arith}
use lib.ListN.{length, get_or}
use Rattle.lists.specs.Parts.{cut}
use Rattle.lists.specs.Below.{all_below, Below}
use Rattle.lists.specs.Inserts.{insert_at}
use Rattle.lists.specs.Sums.{all_cons}
use Rattle.lists.proofs.Below.{all_below-below}
use Rattle.lists.proofs.Each.{All-front, All-back}
use Rattle.lists.proofs.Inserts.{insert-length, insert-below}
use Rattle.lists.proofs.Mapped.{mapped_at}
use Rattle.lists.proofs.Joined.{joined-equal}
use Rattle.lists.proofs.Cuts.{cut-join}
use Rattle.symbol.specs.Sum.{Sum, symbol_at, total}
use Rattle.symbol.specs.Group.{AbelianGroup, Symbols}
use Rattle.symbol.proofs.Totals.{total-found}
use Rattle.scheme.specs.Scheme.{honest_answers}
use Rattle.short_scheme.specs.Short.{digit_sum, key_sum, balancing, short_query, strided_answer, short_answer, or_zeros, recovered, short_recover, short_scheme}
use Rattle.short_scheme.specs.Rows.{RowStored}
use Rattle.short_scheme.proofs.Digits.{balance-turn, balance-none}
use Rattle.short_scheme.proofs.Named.{named_before, named_behind, named_none, named-one, named-symbols, digits-stored}
use Rattle.short_scheme.proofs.Answers.{answer-total}

-- rows with the same digits but for the wanted message's, wherever the messages lie
module _ (sum : Sum) (first stride N S : ℕ) (group : AbelianGroup sum S) (store : List ℕ) (some : 0 < S) (bytes : Below 256 store) (wanted : ℕ)
    (key : List ℕ) (within : wanted ≤ length key) (stored : (d : ℕ) → d < N → RowStored first stride S store (insert_at wanted d key)) where
  -- the answer to the row with digit d at the wanted message, as recovery counts it
  abbrev pub asked_for : ℕ → List ℕ
  asked_for d = or_zeros S (strided_answer sum first stride S store (insert_at wanted d key))

  abbrev before : List (List ℕ)
  before = named_before first stride S store wanted key

  abbrev behind : List (List ℕ)
  behind = named_behind first stride S store wanted key

  asked-none : 0 < N → asked_for 0 ≡ total sum S (before ++ behind)
  asked-none h =
      answer-total sum stride S group.plus-length store first (insert_at wanted 0 key) some (stored 0 h)
      ∙ ap (total sum S) (named_none first stride S store wanted key within)

  asked-one : (d : ℕ) → suc d < N → asked_for (suc d) ≡ total sum S (before ++ (symbol_at S store (first + wanted * stride + d) ∷ behind))
  asked-one d h =
      answer-total sum stride S group.plus-length store first (insert_at wanted (suc d) key) some (stored (suc d) h)
      ∙ ap (total sum S) (named-one first stride S store wanted key within d)

  -- what is asked for digit d, less what is asked for none, is the symbol of digit d
  pub found : (d : ℕ) → suc d < N → sum.minus (asked_for (suc d)) (asked_for 0) ≡ symbol_at S store (first + wanted * stride + d)
  found d h =
      let all = named-symbols stride S store bytes first (insert_at wanted (suc d) key) (stored (suc d) h) in
      let whole : Symbols S (before ++ (symbol_at S store (first + wanted * stride + d) ∷ behind)) =
      rw (named-one first stride S store wanted key within d) at all in
      ap₂ sum.minus (asked-one d h) (asked-none (omega arith)) ∙ last (All-front before _ whole) (All-back before _ whole)
    where
      last : Symbols S before → Symbols S (symbol_at S store (first + wanted * stride + d) ∷ behind)
          → sum.minus (total sum S (before ++ (symbol_at S store (first + wanted * stride + d) ∷ behind))) (total sum S (before ++ behind))
          ≡ symbol_at S store (first + wanted * stride + d)
      last ps (all_cons x qs) = total-found sum S group x ps qs

  -- the honest answers of all servers, and what the reconstruction makes of them
  module _ (answers : List (List ℕ)) (honest : (n : ℕ) → n < N → get_or answers n [] ≡ strided_answer sum first stride S store (short_query N wanted n key)) where
    asked : (n d : ℕ) → n < N → balancing N n key ≡ d → or_zeros S (get_or answers n []) ≡ asked_for d
    unfolding short_query
    asked n d h e = ap (or_zeros S) (honest n h) ∙ ap asked_for e

    symbol-recovered : (d : ℕ) → suc d < N → recovered sum N S (key_sum N key) answers (suc d) ≡ symbol_at S store (first + wanted * stride + d)
    unfolding recovered
    symbol-recovered d h =
        ap₂ sum.minus
        (asked ((suc d + key_sum N key) % N) (suc d) (mod-lt (suc d + key_sum N key) (omega arith)) (balance-turn N (suc d) key h))
        (asked (key_sum N key) 0 (mod-lt (digit_sum key) (omega arith)) (balance-none N key (omega arith)))
        ∙ found d h

    pub row-recovered : short_recover sum N S key answers ≡ cut ((first + wanted * stride) * S) ((N - 1) * S) store
    unfolding short_recover
    row-recovered =
        let from = first + wanted * stride in
        let f = recovered sum N S (key_sum N key) answers in
        joined-equal f (symbol_at S store) 1 from (N - 1)
        (λ i h. ap f (add-one i) ∙ symbol-recovered i (omega arith) ∙ ap (symbol_at S store) (add_comm from i))
        ∙ cut-join S from (N - 1) store

module _ (sum : Sum) (N K S : ℕ) (group : AbelianGroup sum S) (store : List ℕ) (whole : length store ≡ K * ((N - 1) * S)) (some : 0 < S)
    (bytes : Below 256 store) (wanted : ℕ) (message : wanted < K) (key : List ℕ) (long : length key ≡ K - 1) (good : all_below N key ≡ true) where
  stored : (d : ℕ) → d < N → RowStored 0 (N - 1) S store (insert_at wanted d key)
  stored d h =
      digits-stored N K S store whole 0 0 (omega arith) (insert_at wanted d key) (omega (arith, insert-length wanted d key))
      (insert-below N wanted d key h (all_below-below N key good))

  pub message-recovered : short_recover sum N S key (honest_answers (short_scheme sum N K S) N store wanted key)
      ≡ cut (wanted * ((N - 1) * S)) ((N - 1) * S) store
  unfolding honest_answers short_answer
  message-recovered =
      row-recovered sum 0 (N - 1) N S group store some bytes wanted key (omega arith) stored (honest_answers (short_scheme sum N K S) N store wanted key)
      (λ n h. mapped_at (λ (i : ℕ). strided_answer sum 0 (N - 1) S store (short_query N wanted i key)) [] N n h)
      ∙ ap (λ (n : ℕ). cut n ((N - 1) * S) store) (ap (λ (n : ℕ). n * S) (zero-add (wanted * (N - 1))) ∙ mul_assoc wanted (N - 1) S)
