-- The test `all_below` and the fact `Below` say the same (`all_below-below`, `below-all_below`). `Below` of parts and joined lists; and the
-- test from place to place, where what is left of the list decides (`below_next`, `below-stops`).
use mathlib.Core.Path.{◌≡◌, refl, ◌∙◌}
use mathlib.Core.Bool.{Bool, true, false, cond, ◌&&◌}
use mathlib.Core.List.{List, [], ◌∷◌, ◌++◌}
use Prim.Native.Nat.{ℕ, zero, suc, ◌+◌, ◌≤◌, ◌<◌}
use native.Mathlib.Nat.{not-suc-le-zero, le_of_suc-le-suc}
use native.Mathlib.Numerals.{add-one}
use native.Mathlib.Omega.{arith}
use borrow.Author.Tests.{ltb-true, lt-ltb, le-ltb}
use lib.Dec.{ltb}
use lib.ListN.{length, get_or, set, take, drop, replicate, length-append, get_or-append}
use lib.Seq.{drop-cons, get_or-append-add}
use Rattle.lists.specs.Below.{all_below, Below}
use Rattle.lists.proofs.Both.{both_true}

-- the test's step as `&&`
step-and : (t u : Bool) → t && u ≡ cond t u false
step-and true u = refl
step-and false u = refl

pub all_below-below : (n : ℕ) (l : List ℕ) → all_below n l ≡ true → Below n l
unfolding all_below
all_below-below n [] e i h = absurd (not-suc-le-zero h)
all_below-below n (x ∷ l) e zero h = ltb-true x n (both_true (ltb x n) (all_below n l) (step-and (ltb x n) (all_below n l) ∙ e)).0
all_below-below n (x ∷ l) e (suc i) h = all_below-below n l (both_true (ltb x n) (all_below n l) (step-and (ltb x n) (all_below n l) ∙ e)).1 i (le_of_suc-le-suc h)

pub below-all_below : (n : ℕ) (l : List ℕ) → Below n l → all_below n l ≡ true
unfolding all_below
below-all_below n [] b = refl
below-all_below n (x ∷ l) b =
    let h : x < n = b 0 (omega arith) in
    simp (lt-ltb x n h) (below-all_below n l (λ i k. b (suc i) (omega arith)))

pub below-cons : (n x : ℕ) (l : List ℕ) → x < n → Below n l → Below n (x ∷ l)
below-cons n x l h b zero k = h
below-cons n x l h b (suc i) k = b i (le_of_suc-le-suc k)

pub below-drop : (n j : ℕ) (l : List ℕ) → Below n l → Below n (drop j l)
below-drop n zero l b = b
below-drop n (suc j) [] b = b
below-drop n (suc j) (x ∷ l) b = below-drop n j l (λ i k. b (suc i) (omega arith))

pub below-take : (n j : ℕ) (l : List ℕ) → Below n l → Below n (take j l)
below-take n zero l b = λ i h. absurd (not-suc-le-zero h)
below-take n (suc j) [] b = b
below-take n (suc j) (x ∷ l) b = below-cons n x (take j l) (b 0 (omega arith)) (below-take n j l (λ i k. b (suc i) (omega arith)))

pub below-append : (n : ℕ) (l m : List ℕ) → Below n l → Below n m → Below n (l ++ m)
below-append n [] m b d = d
below-append n (x ∷ l) m b d = below-cons n x (l ++ m) (b 0 (omega arith)) (below-append n l m (λ i k. b (suc i) (omega arith)) d)

pub below-zeros : (n count : ℕ) → 0 < n → Below n (replicate count 0)
below-zeros n zero h = λ i k. absurd (not-suc-le-zero k)
below-zeros n (suc count) h = below-cons n 0 (replicate count 0) h (below-zeros n count h)

-- with one element set
pub below_set : (n : ℕ) (l : List ℕ) (i v : ℕ) → Below n l → v < n → Below n (set l i v)
below_set n [] i v b h = b
below_set n (x ∷ l) zero v b h = below-cons n v l h (λ i k. b (suc i) (omega arith))
below_set n (x ∷ l) (suc i) v b h = below-cons n x (set l i v) (b 0 (omega arith)) (below_set n l i v (λ j k. b (suc j) (omega arith)) h)

module _ (n : ℕ) (front back : List ℕ) (small : Below n (front ++ back)) where
  pub below-front : Below n front
  below-front i h =
      rw (get_or-append front back 0 i h) at (small i (let e = length-append front back in omega arith))

  pub below-back : Below n back
  below-back i h =
      rw (get_or-append-add front back i 0) at (small (length front + i) (let e = length-append front back in omega arith))

-- the element at place i passes: the rest decides
pub below_next : (n : ℕ) (l : List ℕ) (i : ℕ) → i < length l → get_or l i 0 < n → all_below n (drop i l) ≡ all_below n (drop (i + 1) l)
unfolding all_below
below_next n l i h k = rw (add-one, drop-cons l i 0, lt-ltb (get_or l i 0) n k)

-- it does not pass
pub below-stops : (n : ℕ) (l : List ℕ) (i : ℕ) → i < length l → n ≤ get_or l i 0 → all_below n (drop i l) ≡ false
unfolding all_below
below-stops n l i h k = rw (drop-cons l i 0, le-ltb (get_or l i 0) n k)

-- joined lists are tested one after the other
pub below-joined : (n : ℕ) (l m : List ℕ) → all_below n (l ++ m) ≡ cond (all_below n l) (all_below n m) false
unfolding all_below
below-joined n [] m = refl
below-joined n (x ∷ l) m = go (ltb x n) (below-joined n l m)
  where
    go : (t : Bool) → all_below n (l ++ m) ≡ cond (all_below n l) (all_below n m) false
        → cond t (all_below n (l ++ m)) false ≡ cond (cond t (all_below n l) false) (all_below n m) false
    go true e = e
    go false e = refl
