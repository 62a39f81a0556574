-- Permutations as lists: what the test says by places (`permutation-facts`), that every number below the size stands in one (`covers`),
-- that ascending numbers are one (`range-permutation`), and the laws of `arranged` (`arranged-at`, `arranged-only`, `arranged-permutation`) and `picked`.
use Prim.Native.Nat.{ℕ, zero, suc, ◌≤◌, ◌<◌}
use native.Mathlib.Nat.{not-suc-le-zero, mul-one}
use native.Mathlib.Omega.{arith}
use mathlib.Core.Path.{◌≡◌, refl, sym, ap, ◌∙◌, subst}
use mathlib.Core.Bool.{Bool, true, false, ◌&&◌}
use mathlib.Core.List.{List, [], ◌∷◌}
use borrow.Author.Tests.{eqb-true, eqb-false, eq-eqb}
use lib.Dec.{eqb}
use lib.ListN.{length, get_or, length-map}
use lib.Seq.{ext_get_or}
use Rattle.lists.specs.Arranged.{place_in, arranged, picked}
use Rattle.lists.specs.Below.{all_below, Below}
use Rattle.lists.specs.Distinct.{stands, distinct, is_permutation}
use Rattle.lists.specs.Ranges.{range}
use Rattle.lists.specs.Sums.{bit, sum}
use Rattle.lists.proofs.Below.{all_below-below, below-all_below}
use Rattle.lists.proofs.Bits.{bit-small, bit-one}
use Rattle.lists.proofs.Both.{both_true}
use Rattle.lists.proofs.Distinct.{place_of, distinct_apart, apart_distinct, stands-count}
use Rattle.lists.proofs.Mapped.{map_at, mapped-length, mapped_at}
use Rattle.lists.proofs.Ranges.{range_length, range_at}
use Rattle.lists.proofs.Sums.{sum-next, sum-most}

-- every number below the size, each at one place
pub record Permutation (size : ℕ) (l : List ℕ) : Type 0 where
  pub long : length l ≡ size
  pub low : (i : ℕ) → i < size → get_or l i 0 < size
  pub apart : (i j : ℕ) → i < size → j < size → get_or l i 0 ≡ get_or l j 0 → i ≡ j

pub permutation-facts : (size : ℕ) (l : List ℕ) → is_permutation size l ≡ true → Permutation size l
unfolding is_permutation
permutation-facts size l e =
    let p = both_true (eqb (length l) size) (all_below size l && distinct l) e in
    let q = both_true (all_below size l) (distinct l) p.1 in
    let long : length l ≡ size = eqb-true (length l) size p.0 in
    record {
      long = long;
      low = λ i h. all_below-below size l q.0 i (omega arith);
      apart = λ i j h k. distinct_apart l q.1 i j (omega arith) (omega arith);
    }

pub permutation-tests : (size : ℕ) (l : List ℕ) → Permutation size l → Below size l × (distinct l ≡ true)
permutation-tests size l p =
    let long = p.long in (λ i h. p.low i (omega arith), apart_distinct l (λ i j h k. p.apart i j (omega arith) (omega arith)))

pub facts-permutation : (size : ℕ) (l : List ℕ) → Permutation size l → is_permutation size l ≡ true
unfolding is_permutation
facts-permutation size l p =
    let t = permutation-tests size l p in
    rw (eq-eqb (length l) size p.long, below-all_below size l t.0, t.1)

-- the numbers in ascending order
pub range-permutation : (size : ℕ) → Permutation size (range 0 size)
range-permutation size = record {
  long = range_length 0 size;
  low = λ i h. omega (arith, range_at 0 size i 0 h);
  apart = λ i j h k e. omega (arith, range_at 0 size i 0 h, range_at 0 size j 0 k);
}

-- as many terms as their sum, none above 1: all are 1
all_one : (f : ℕ → ℕ) → ((v : ℕ) → f v ≤ 1) → (m : ℕ) → sum f (range 0 m) ≡ m → (v : ℕ) → v < m → f v ≡ 1
all_one f b zero e v h = absurd (not-suc-le-zero h)
all_one f b (suc m) e v h = go (eqb v m) refl (all_one f b m rest v)
  where
    rest : sum f (range 0 m) ≡ m
    rest = omega (arith, e, sum-next f m, sum-most f 1 m b, mul-one m, b m)

    go : (t : Bool) → eqb v m ≡ t → (v < m → f v ≡ 1) → f v ≡ 1
    go true q ih = ap f (eqb-true v m q) ∙ omega (arith, e, sum-next f m, rest)
    go false q ih = let d : v ≡ m → ⊥ = eqb-false v m q in ih (omega arith)

-- every number below the size stands in a permutation, and `place_in` has its place
pub covers : (size : ℕ) (l : List ℕ) → Permutation size l → (v : ℕ) → v < size → (place_in v l < size) × (get_or l (place_in v l) 0 ≡ v)
covers size l p v h = let c = place_of v l (bit-one (stands v l) here) in let long = p.long in (omega (arith, c.0), c.1)
  where
    here : bit (stands v l) ≡ 1
    here =
        let t = permutation-tests size l p in
        all_one (λ u. bit (stands u l)) (λ u. omega (arith, bit-small (stands u l))) size (stands-count size l t.0 t.1 ∙ p.long) v h

module _ (size : ℕ) (A B : List ℕ) (a : Permutation size A) where
  arranged-length : length (arranged A B) ≡ size
  unfolding arranged
  arranged-length = mapped-length (λ place. get_or B (place_in place A) 0) 0 (length A) ∙ a.long

  entry : (v : ℕ) → v < size → get_or (arranged A B) v 0 ≡ get_or B (place_in v A) 0
  unfolding arranged
  entry v h = let long = a.long in mapped_at (λ place. get_or B (place_in place A) 0) 0 (length A) v (omega arith)

  pub arranged-at : (i : ℕ) → i < size → get_or (arranged A B) (get_or A i 0) 0 ≡ get_or B i 0
  arranged-at i h =
      let c = covers size A a (get_or A i 0) (a.low i h) in
      entry (get_or A i 0) (a.low i h) ∙ ap (λ j. get_or B j 0) (a.apart (place_in (get_or A i 0) A) i c.0 h c.1)

  -- and it is the only list that has these entries there
  arranged-only : (L : List ℕ) → length L ≡ size → ((i : ℕ) → i < size → get_or L (get_or A i 0) 0 ≡ get_or B i 0) → L ≡ arranged A B
  arranged-only L long at =
      ext_get_or 0 L (arranged A B) (long ∙ sym arranged-length) (λ v h.
      let low : v < size = omega arith in
      let c = covers size A a v low in
      ap (λ u. get_or L u 0) (sym c.1) ∙ at (place_in v A) c.0 ∙ sym (entry v low))

  pub arranged-permutation : Permutation size B → Permutation size (arranged A B)
  arranged-permutation b =
      record {
        long = arranged-length;
        low = λ v h. subst (λ (x : ℕ). x < size) (sym (entry v h)) (b.low (place_in v A) (covers size A a v h).0);
        apart = λ u v h k q.
            let c = covers size A a u h in
            let d = covers size A a v k in
            sym c.1 ∙ ap (λ i. get_or A i 0) (b.apart (place_in u A) (place_in v A) c.0 d.0 (sym (entry u h) ∙ q ∙ entry v k)) ∙ d.1;
      }

pub picked-at : (list places : List ℕ) (i : ℕ) → i < length places → get_or (picked list places) i 0 ≡ get_or list (get_or places i 0) 0
unfolding picked
picked-at list places i h = map_at (λ place. get_or list place 0) 0 0 places i h

pub picked-length : (list places : List ℕ) → length (picked list places) ≡ length places
unfolding picked
picked-length list places = length-map places (λ place. get_or list place 0)

pub picked-picked : (list middle places : List ℕ) → Below (length middle) places → picked (picked list middle) places ≡ picked list (picked middle places)
unfolding picked
picked-picked list middle [] b = refl
picked-picked list middle (x ∷ places) b =
    let first : get_or (picked list middle) x 0 ≡ get_or list (get_or middle x 0) 0 = picked-at list middle x (b 0 (omega arith)) in
    ap (λ v. v ∷ picked (picked list middle) places) first
    ∙ ap (λ l. get_or list (get_or middle x 0) 0 ∷ l) (picked-picked list middle places (λ i h. b (suc i) (omega arith)))

-- different places of a permutation hold different entries
module _ (size : ℕ) (l places : List ℕ) (p : Permutation size l) (b : Below size places) where
  picked-below : Below size (picked l places)
  picked-below i h =
      let e = picked-length l places in
      subst (λ (x : ℕ). x < size) (sym (picked-at l places i (omega arith))) (p.low (get_or places i 0) (b i (omega arith)))

  pub picked-distinct : distinct places ≡ true → distinct (picked l places) ≡ true
  picked-distinct d =
      let e = picked-length l places in
      apart_distinct (picked l places) (λ i j h k q.
      distinct_apart places d i j (omega arith) (omega arith)
      (p.apart (get_or places i 0) (get_or places j 0) (b i (omega arith)) (b j (omega arith))
      (sym (picked-at l places i (omega arith)) ∙ q ∙ picked-at l places j (omega arith))))

pub picked-permutation : (size : ℕ) (l places : List ℕ) → Permutation size l → Permutation size places → Permutation size (picked l places)
unfolding is_permutation
picked-permutation size l places p q =
    let t = permutation-tests size places q in
    permutation-facts size (picked l places)
    (rw (
      eq-eqb (length (picked l places)) size (picked-length l places ∙ q.long),
      below-all_below size (picked l places) (picked-below size l places p t.0),
      picked-distinct size l places p t.0 t.1,
    ))

-- a list carried from the places B to the places A, and back
pub carried-back : (size : ℕ) (A B l : List ℕ) → Permutation size A → Permutation size B → length l ≡ size → arranged B (picked (arranged A (picked l B)) A) ≡ l
carried-back size A B l a b long =
    sym (arranged-only size B (picked (arranged A (picked l B)) A) b l long (λ i h.
    let long_a = a.long in
    let long_b = b.long in
    sym (picked-at (arranged A (picked l B)) A i (omega arith) ∙ arranged-at size A (picked l B) a i h ∙ picked-at l B i (omega arith))))

-- renamed by A and B, and by B and A again
pub renamed-back : (size : ℕ) (A B l : List ℕ) → Permutation size A → Permutation size B → Below size l → picked (arranged B A) (picked (arranged A B) l) ≡ l
renamed-back size A B l a b low =
    let first = picked-length (arranged A B) l in
    let both = picked-length (arranged B A) (picked (arranged A B) l) in
    ext_get_or 0 (picked (arranged B A) (picked (arranged A B) l)) l (both ∙ first) (λ i h.
    let c = covers size A a (get_or l i 0) (low i (omega arith)) in
    let j = place_in (get_or l i 0) A in
    picked-at (arranged B A) (picked (arranged A B) l) i (omega arith)
    ∙ ap (λ v. get_or (arranged B A) v 0) (picked-at (arranged A B) l i (omega arith))
    ∙ ap (λ v. get_or (arranged B A) (get_or (arranged A B) v 0) 0) (sym c.1)
    ∙ ap (λ v. get_or (arranged B A) v 0) (arranged-at size A B a j c.0)
    ∙ arranged-at size B A b j c.0
    ∙ c.1)
