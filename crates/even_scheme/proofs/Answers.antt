-- An answer has one symbol for each row of the query (`answers-length`, `answer-length`), so it fills its slot (`answer-fits`). Rests on the
-- number of rows of a layout (`layout-length`).
use mathlib.Core.Path.{◌≡◌, sym, ap, ◌∙◌}
use mathlib.Core.Bool.{Bool, true}
use mathlib.Core.List.{List, [], ◌∷◌, zip_with}
use Prim.Native.Nat.{ℕ, suc, ◌-◌, ◌*◌, ◌^◌, ◌≤◌, ◌<◌}
use native.Mathlib.Nat.{suc-mul, zero-mul}
use native.Mathlib.Omega.{arith}
use lib.ListN.{length, drop, length-append, length-map, length-replicate}
use Rattle.lists.specs.Below.{Below}
use Rattle.lists.specs.Sums.{All, all_nil, all_cons}
use Rattle.lists.proofs.Below.{below-drop}
use Rattle.parameters.specs.Bounds.{even_fits}
use Rattle.parameters.specs.Measures.{even_sizes, even_rows}
use Rattle.parameters.proofs.Bounds.{even-bounds}
use Rattle.symbol.specs.Sum.{Sum, zeros, total, total_from}
use Rattle.symbol.specs.Group.{KeepsLength}
use Rattle.even_places.specs.Rule.{ones_in, rows, layout}
use Rattle.even_places.proofs.Counts.{rows-length}
use Rattle.even_places.proofs.Joined.{same_layout}
use Rattle.even_places.proofs.SetLaws.{set_of}
use Rattle.even_places.proofs.AllSets.{layout-long}
use Rattle.even_places.proofs.Positions.{members-below}
use Rattle.even_scheme.specs.Even.{symbol_of, row_answer, row_answers, even_answer, even_scheme}
use Rattle.even_scheme.proofs.Measures.{rows-counted}
use Rattle.even_scheme.proofs.Reach.{admitted}
use Rattle.even_scheme.proofs.Symbols.{symbol-long}

pub layout-length : (N K : ℕ) → 1 < N → 0 < K → length (layout N K) ≡ even_rows N K
layout-length N K wide some =
    ap length (sym (same_layout N K 0 wide some 0 (omega arith)))
    ∙ length-map (rows N K 0 0) set_of
    ∙ rows-length N K 0 wide some 0 (omega arith)
    ∙ sym (rows-counted N K wide some)

module _ (sum : Sum) (N K S : ℕ) (keeps : KeepsLength sum.plus S) where
  total-long : {xs : List (List ℕ)} → All (λ x. length x ≡ S) xs → length (total sum S xs) ≡ S
  unfolding total total_from
  total-long a = from (zeros S) (length-replicate S 0) a
    where
      from : (start : List ℕ) → length start ≡ S → {xs : List (List ℕ)} → All (λ x. length x ≡ S) xs → length (total_from sum start xs) ≡ S
      from start e all_nil = e
      from start e (all_cons {x = x} f b) = from (sum.plus start x) (keeps start x e f) b

  module _ (store : List ℕ) (long : length store ≡ K * (N ^ K * S)) where
    named-long : {ps : List ℕ} → All (λ p. p < K) ps → (numbers : List ℕ) → Below (N ^ K) numbers
        → All (λ x. length x ≡ S) (zip_with (symbol_of sum N K S store) ps numbers)
    unfolding zip_with
    named-long all_nil numbers b = all_nil
    named-long (all_cons h a) [] b = all_nil
    named-long (all_cons {x = p} h a) (i ∷ numbers) b =
        all_cons (symbol-long sum N K S store long p i h (b 0 (omega arith))) (named-long a numbers (λ j l. b (suc j) (omega arith)))

    -- the answers to rows are as many symbols
    pub answers-length : {sets : List (List Bool)} → All (λ A. length A ≡ K) sets → (query : List ℕ) → Below (N ^ K) query
        → length (row_answers sum N K S store sets query) ≡ length sets * S
    unfolding row_answers row_answer
    answers-length all_nil query b = sym (zero-mul S)
    answers-length (all_cons {x = A} {xs = sets} h a) query b =
        length-append (row_answer sum N K S store A query) (row_answers sum N K S store sets (drop (ones_in A) query))
        ∙ omega (
          arith,
          total-long (named-long (members-below K 0 A (omega arith)) query b),
          answers-length a (drop (ones_in A) query) (below-drop (N ^ K) (ones_in A) query b),
          suc-mul (length sets) S,
        )

module _ (sum : Sum) (N K S : ℕ) (keeps : KeepsLength sum.plus S) (fits : even_fits N K S ≡ true) where
  pub answer-length : (server : ℕ) (store query : List ℕ) → length store ≡ (even_scheme sum N K S).sizes.store
      → (even_scheme sum N K S).admits server query ≡ true
      → length ((even_scheme sum N K S).answer store query) ≡ (even_scheme sum N K S).answer_length query
  unfolding even_answer even_sizes
  answer-length server store query long admits =
      let bounds = even-bounds N K S fits in
      answers-length sum N K S keeps store long (layout-long N K) query (admitted N K server query admits).low
      ∙ ap (λ (rows : ℕ). rows * S) (layout-length N K bounds.servers-low bounds.messages-low)

pub answer-fits : (sum : Sum) (N K S server : ℕ) (query : List ℕ) → (even_scheme sum N K S).admits server query ≡ true
    → (even_scheme sum N K S).answer_length query ≤ (even_scheme sum N K S).sizes.slot
unfolding even_sizes
answer-fits sum N K S server query admits = omega arith
