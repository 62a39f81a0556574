-- The answer set by set: the answers to the rows of the sets from i on (`answers-more`), and how long these are (`set-length`).
use mathlib.Core.Path.{◌≡◌, sym, ap, ◌∙◌}
use mathlib.Core.Bool.{Bool}
use mathlib.Core.List.{List, [], ◌++◌, append_assoc}
use Prim.Native.Nat.{ℕ, zero, suc, ◌+◌, ◌*◌, ◌^◌, ◌<◌}
use native.Mathlib.Nat.{zero-mul, suc-mul}
use native.Mathlib.Omega.{arith}
use lib.ListN.{length, get_or, drop, replicate, length-replicate}
use lib.Seq.{drop-drop}
use Rattle.lists.specs.Below.{Below}
use Rattle.lists.proofs.Each.{All-replicate}
use Rattle.parameters.specs.Measures.{even_sizes}
use Rattle.symbol.specs.Sum.{Sum}
use Rattle.symbol.specs.Group.{KeepsLength}
use Rattle.even_places.specs.Rule.{ones_in, all_sets}
use Rattle.even_scheme.specs.Even.{row_answer, row_answers}
use Rattle.even_scheme.proofs.Answers.{answers-length}
use Rattle.even_sets.specs.Sets.{rows_of}
use Rattle.even_layout.proofs.RowRuns.{rows_from, rows_more}

module _ (sum : Sum) (N K S : ℕ) (store : List ℕ) where
  answers-append : (A : List Bool) (n : ℕ) (more : List (List Bool)) (numbers : List ℕ)
      → row_answers sum N K S store (replicate n A ++ more) numbers
      ≡ row_answers sum N K S store (replicate n A) numbers ++ row_answers sum N K S store more (drop (n * ones_in A) numbers)
  unfolding row_answers
  answers-append A zero more numbers = rw (zero-mul (ones_in A))
  answers-append A (suc n) more numbers =
      let front = row_answer sum N K S store A numbers in
      let rest = drop (ones_in A) numbers in
      let next : ones_in A + n * ones_in A ≡ suc n * ones_in A = omega (arith, suc-mul n (ones_in A)) in
      ap (λ (l : List ℕ). front ++ l) (answers-append A n more rest)
      ∙ sym (append_assoc front (row_answers sum N K S store (replicate n A) rest) (row_answers sum N K S store more (drop (n * ones_in A) rest)))
      ∙ ap (λ (l : List ℕ). (front ++ row_answers sum N K S store (replicate n A) rest) ++ row_answers sum N K S store more l)
      (drop-drop (n * ones_in A) (ones_in A) numbers ∙ ap (λ (m : ℕ). drop m numbers) next)

  -- one set more, whose rows take `taken` numbers
  pub answers-more : (i at taken : ℕ) (query : List ℕ) → i < length (all_sets K)
      → taken ≡ rows_of N (get_or (all_sets K) i []) * ones_in (get_or (all_sets K) i [])
      → row_answers sum N K S store (rows_from N K i) (drop at query)
      ≡ row_answers sum N K S store (replicate (rows_of N (get_or (all_sets K) i [])) (get_or (all_sets K) i [])) (drop at query)
      ++ row_answers sum N K S store (rows_from N K (i + 1)) (drop (at + taken) query)
  answers-more i at taken query h e =
      let A = get_or (all_sets K) i [] in
      let front = row_answers sum N K S store (replicate (rows_of N A) A) (drop at query) in
      ap (λ (L : List (List Bool)). row_answers sum N K S store L (drop at query)) (rows_more N K i h)
      ∙ answers-append A (rows_of N A) (rows_from N K (i + 1)) (drop at query)
      ∙ ap (λ (l : List ℕ). front ++ row_answers sum N K S store (rows_from N K (i + 1)) l)
      (drop-drop (rows_of N A * ones_in A) at query ∙ ap (λ (m : ℕ). drop (at + m) query) (sym e))

  -- the answers to the rows of a set
  pub set-length : KeepsLength sum.plus S → (A : List Bool) (n : ℕ) (numbers : List ℕ) → length store ≡ (even_sizes N K S).store
      → length A ≡ K → Below (N ^ K) numbers → length (row_answers sum N K S store (replicate n A) numbers) ≡ n * S
  unfolding even_sizes
  set-length keeps A n numbers whole e b =
      answers-length sum N K S keeps store whole (All-replicate n A e) numbers b ∙ ap (λ (m : ℕ). m * S) (length-replicate n A)
