-- What the tests `stands` and `distinct` say by places: no two places hold one number (`distinct_apart`, `apart_distinct`), and a
-- list of different numbers below a size has as many of them as it is long (`stands-count`).
use Prim.Native.Nat.{ℕ, zero, suc, ◌+◌, ◌≤◌, ◌<◌}
use native.Mathlib.Nat.{not-suc-le-zero}
use native.Mathlib.Omega.{arith}
use mathlib.Core.Path.{◌≡◌, refl, sym, ap, ◌∙◌}
use mathlib.Core.Bool.{Bool, true, false, cond, not, ◌&&◌, ◌||◌, true≢false, false≢true}
use mathlib.Core.List.{List, [], ◌∷◌}
use borrow.Author.Tests.{eqb-true, eqb-false, eq-eqb, ne_eqb, not-true, lt-ltb, le-ltb}
use lib.Dec.{eqb, ltb}
use lib.ListN.{length, get_or}
use Rattle.lists.specs.Arranged.{place_in}
use Rattle.lists.specs.Below.{all_below, Below}
use Rattle.lists.specs.Distinct.{stands, distinct}
use Rattle.lists.specs.Ranges.{range}
use Rattle.lists.specs.Sums.{bit, sum}
use Rattle.lists.proofs.Bits.{bit-zero, bit-step}
use Rattle.lists.proofs.Both.{both_true}
use Rattle.lists.proofs.Each.{All-at, All-imp}
use Rattle.lists.proofs.Sums.{sum-all, sum-ext, sum_one, sum-next, sum-swap}

-- no two places hold one number
abbrev pub Apart : List ℕ → Type 0
Apart l = (i j : ℕ) → i < length l → j < length l → get_or l i 0 ≡ get_or l j 0 → i ≡ j

pub stands_at : (l : List ℕ) (i : ℕ) → i < length l → stands (get_or l i 0) l ≡ true
unfolding stands
stands_at [] i h = absurd (not-suc-le-zero h)
stands_at (x ∷ l) zero h = rw (eq-eqb x x refl)
stands_at (x ∷ l) (suc i) h = go (eqb (get_or l i 0) x) (stands_at l i (omega arith))
  where
    go : (t : Bool) → stands (get_or l i 0) l ≡ true → t || stands (get_or l i 0) l ≡ true
    go true e = refl
    go false e = e

-- where a number stands, `place_in` has its place
pub place_of : (x : ℕ) (l : List ℕ) → stands x l ≡ true → (place_in x l < length l) × (get_or l (place_in x l) 0 ≡ x)
unfolding stands place_in
place_of x [] e = absurd (false≢true e)
place_of x (y ∷ l) e = go (eqb x y) refl e (place_of x l)
  where
    go : (t : Bool) → eqb x y ≡ t → t || stands x l ≡ true → (stands x l ≡ true → (place_in x l < length l) × (get_or l (place_in x l) 0 ≡ x))
        → (cond t 0 (suc (place_in x l)) < suc (length l)) × (get_or (y ∷ l) (cond t 0 (suc (place_in x l))) 0 ≡ x)
    go true same h ih = (omega arith, sym (eqb-true x y same))
    go false other h ih = let r = ih h in (omega (arith, r.0), r.1)

pub distinct_apart : (l : List ℕ) → distinct l ≡ true → Apart l
unfolding distinct
distinct_apart [] e i j h k q = absurd (not-suc-le-zero h)
distinct_apart (x ∷ l) e zero zero h k q = refl
distinct_apart (x ∷ l) e zero (suc j) h k q =
    let absent = not-true (stands x l) (both_true (not (stands x l)) (distinct l) e).0 in
    absurd (true≢false (sym (stands_at l j (omega arith)) ∙ ap (λ y. stands y l) (sym q) ∙ absent))
distinct_apart (x ∷ l) e (suc i) zero h k q =
    absurd (true≢false (sym (stands_at l i (omega arith)) ∙ ap (λ y. stands y l) q ∙ not-true (stands x l) (both_true (not (stands x l)) (distinct l) e).0))
distinct_apart (x ∷ l) e (suc i) (suc j) h k q =
    ap suc (distinct_apart l (both_true (not (stands x l)) (distinct l) e).1 i j (omega arith) (omega arith) q)

pub apart_distinct : (l : List ℕ) → Apart l → distinct l ≡ true
unfolding distinct
apart_distinct [] a = refl
apart_distinct (x ∷ l) a =
    go (stands x l) refl (apart_distinct l (λ i j h k q. let e : suc i ≡ suc j = a (suc i) (suc j) (omega arith) (omega arith) q in omega arith))
  where
    go : (t : Bool) → stands x l ≡ t → distinct l ≡ true → not t && distinct l ≡ true
    go true e ih =
        let p = place_of x l e in
        let z : 0 ≡ suc (place_in x l) = a 0 (suc (place_in x l)) (omega arith) (omega (arith, p.0)) (sym p.1) in
        absurd (let w : ⊥ = omega arith in w)
    go false e ih = ih

-- ---- counting

pub eqb_comm : (m n : ℕ) → eqb m n ≡ eqb n m
eqb_comm m n = go (eqb m n) refl
  where
    go : (t : Bool) → eqb m n ≡ t → t ≡ eqb n m
    go true e = sym (eq-eqb n m (sym (eqb-true m n e)))
    go false e = sym (ne_eqb n m (λ q. eqb-false m n e (sym q)))

-- how often v stands in the list
unfoldable pub times : ℕ → List ℕ → ℕ
times v l = sum (λ x. bit (eqb x v)) l

pub stands-times : (v : ℕ) (l : List ℕ) → distinct l ≡ true → times v l ≡ bit (stands v l)
unfolding distinct stands times sum bit
stands-times v [] d = refl
stands-times v (x ∷ l) d =
    let new = not-true (stands x l) (both_true (not (stands x l)) (distinct l) d).0 in
    rw (eqb_comm x v) (go (eqb v x) refl new (stands-times v l (both_true (not (stands x l)) (distinct l) d).1))
  where
    go : (t : Bool) → eqb v x ≡ t → stands x l ≡ false → times v l ≡ bit (stands v l) → bit t + times v l ≡ bit (t || stands v l)
    go true e new ih = omega (arith, ih, ap bit (ap (λ y. stands y l) (eqb-true v x e) ∙ new))
    go false e new ih = omega (arith, ih)

-- a list has no number twice, and all below the size, if no number stands in it more than once, and none from the size on
pub times-distinct : (l : List ℕ) → ((v : ℕ) → times v l ≤ 1) → distinct l ≡ true
unfolding distinct times sum bit
times-distinct [] h = refl
times-distinct (x ∷ l) h =
    let rest = times-distinct l (λ v. omega (arith, h v)) in
    let new = bit-zero (stands x l) (omega (arith, h x, ap bit (eq-eqb x x refl), stands-times x l rest)) in
    rw (new, rest)

pub times_below : (size : ℕ) (l : List ℕ) → ((v : ℕ) → times v l ≤ bit (ltb v size)) → all_below size l ≡ true
unfolding all_below times sum bit
times_below size [] h = refl
times_below size (x ∷ l) h = go (ltb x size) refl (times_below size l (λ v. omega (arith, h v)))
  where
    go : (t : Bool) → ltb x size ≡ t → all_below size l ≡ true → cond t (all_below size l) false ≡ true
    go true e ih = ih
    go false e ih = absurd (let w : ⊥ = omega (arith, h x, ap bit (eq-eqb x x refl), ap bit e) in w)

-- of the numbers below the size, x is one, and once, if it is below it
pub range-times : (x size : ℕ) → times x (range 0 size) ≡ bit (ltb x size)
unfolding times sum range bit
range-times x zero = rw (le-ltb x 0 (omega arith))
range-times x (suc size) = sum-next (λ v. bit (eqb v x)) size ∙ omega (arith, range-times x size, bit-step x size)

-- different numbers below a size: as many of the numbers below it stand in the list as it is long
pub stands-count : (size : ℕ) (l : List ℕ) → Below size l → distinct l ≡ true → sum (λ v. bit (stands v l)) (range 0 size) ≡ length l
unfolding times bit
stands-count size l b d =
    sum-ext (λ v. bit (stands v l)) (λ v. sum (λ x. bit (eqb x v)) l) (λ v. sym (stands-times v l d)) (range 0 size)
    ∙ sum-swap (λ v x. bit (eqb x v)) (range 0 size) l
    ∙ sum-all (λ x. sum (λ v. bit (eqb x v)) (range 0 size)) (λ x. 1) (All-imp (λ x h. once x h) (All-at 0 l b))
    ∙ sum_one l
  where
    once : (x : ℕ) → x < size → sum (λ v. bit (eqb x v)) (range 0 size) ≡ 1
    once x h = sum-ext (λ v. bit (eqb x v)) (λ v. bit (eqb v x)) (λ v. ap bit (eqb_comm x v)) (range 0 size) ∙ range-times x size ∙ ap bit (lt-ltb x size h)
