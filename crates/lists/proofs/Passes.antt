-- A pass over numbers that marks each one and stops at a marked one or one that is too large: how it goes on from place i
-- (`passes-high`, `passes-seen`, `passes-more`, `passes-end`), and that it tells a permutation (`permutation-passes`).
use Prim.Native.Nat.{ℕ, suc, ◌+◌, ◌≤◌, ◌<◌}
use native.Mathlib.Numerals.{add-one}
use mathlib.Core.Path.{◌≡◌, sym, ap, ◌∙◌}
use mathlib.Core.Bool.{Bool, true, false, cond, not, ◌&&◌, and-false}
use mathlib.Core.List.{List}
use borrow.Author.Tests.{lt-ltb, le-ltb, eq-eqb}
use lib.Dec.{ltb}
use lib.ListN.{length, get_or, set, drop, replicate}
use lib.Seq.{drop-cons, drop-length}
use Rattle.lists.specs.Below.{all_below}
use Rattle.lists.specs.Distinct.{stands, is_permutation}
use Rattle.lists.proofs.Marks.{unmarked, unmarked-blank, unmarked-set}

-- the numbers are below the size and distinct, and none is marked
unfoldable pub passes : ℕ → List Bool → List ℕ → Bool
passes size marks xs = all_below size xs && unmarked marks xs

module _ (size : ℕ) (marks : List Bool) (xs : List ℕ) (i : ℕ) (within : i < length xs) where
  x : ℕ
  x = get_or xs i 0

  rest : List ℕ
  rest = drop (suc i) xs

  here : passes size marks (drop i xs)
      ≡ cond (ltb x size) (all_below size rest) false && (not (get_or marks x false) && (not (stands x rest) && unmarked marks rest))
  unfolding passes all_below unmarked x rest
  here = rw (drop-cons xs i 0 within)

  pub passes-high : size ≤ get_or xs i 0 → passes size marks (drop i xs) ≡ false
  unfolding x
  passes-high h = here ∙ rw (le-ltb x size h)

  pub passes-seen : get_or marks (get_or xs i 0) false ≡ true → passes size marks (drop i xs) ≡ false
  unfolding x
  passes-seen e = here ∙ rw e (and-false (cond (ltb x size) (all_below size rest) false))

  pub passes-more : get_or xs i 0 < size → get_or xs i 0 < length marks → get_or marks (get_or xs i 0) false ≡ false
      → passes size marks (drop i xs) ≡ passes size (set marks (get_or xs i 0) true) (drop (i + 1) xs)
  unfolding passes x rest
  passes-more h l e = here ∙ rw (lt-ltb x size h, e, add-one i) (ap (λ t. all_below size rest && t) (sym (unmarked-set marks x rest l)))

pub passes-end : (size : ℕ) (marks : List Bool) (xs : List ℕ) (i : ℕ) → i ≡ length xs → passes size marks (drop i xs) ≡ true
unfolding passes all_below unmarked
passes-end size marks xs i e = ap (passes size marks) (ap (λ (m : ℕ). drop m xs) e ∙ drop-length xs)

pub permutation-passes : (size n : ℕ) (xs : List ℕ) → length xs ≡ size → is_permutation size xs ≡ passes size (replicate n false) xs
unfolding is_permutation passes
permutation-passes size n xs e = rw (eq-eqb (length xs) size e, unmarked-blank n xs)
