-- Different numbers below a size, completed by those left, are a permutation (`completed-permutation`); and a list arranged by such a
-- permutation has its first part at the numbers' places (`completed-shown`, `carried-shown`).
use Prim.Native.Nat.{ℕ, ◌+◌, ◌*◌, ◌≤◌}
use native.Mathlib.Nat.{mul-zero, mul-one, one-mul}
use native.Mathlib.Omega.{arith}
use mathlib.Core.Path.{◌≡◌, refl, sym, ap, ◌∙◌}
use mathlib.Core.Bool.{Bool, true, false, not}
use mathlib.Core.List.{List, ◌++◌}
use borrow.Author.Tests.{eqb-true, eq-eqb, ltb-false}
use lib.Dec.{eqb, ltb}
use lib.ListN.{length, get_or, length-append, get_or-append}
use lib.Seq.{ext_get_or}
use Rattle.lists.specs.Arranged.{place_in, arranged, picked, completed}
use Rattle.lists.specs.Below.{Below}
use Rattle.lists.specs.Distinct.{stands, distinct, is_permutation}
use Rattle.lists.specs.Ranges.{range}
use Rattle.lists.specs.Sums.{bit, keep, sum}
use Rattle.lists.proofs.Bits.{bit-small, bit-either}
use Rattle.lists.proofs.Distinct.{place_of, times, stands-times, times-distinct, times_below, range-times, stands-count}
use Rattle.lists.proofs.Mapped.{map-append}
use Rattle.lists.proofs.Ranges.{range_length}
use Rattle.lists.proofs.Sums.{sum-append, sum-keep, sum-mul, sum-ext, sum-add, sum_one}
use Rattle.lists.proofs.Arranged.{Permutation, permutation-facts, arranged-at, picked-at, picked-length}

module _ (size : ℕ) (xs : List ℕ) (b : Below size xs) (d : distinct xs ≡ true) where
  left : ℕ → Bool
  left v = not (stands v xs)

  completed-length : length (completed size xs) ≡ size
  unfolding completed left
  completed-length =
      let rest : length (keep left (range 0 size)) ≡ sum (λ v. bit (left v) * 1) (range 0 size) =
      sym (sum_one (keep left (range 0 size))) ∙ sum-keep (λ v. 1) left (range 0 size) in
      let all : sum (λ v. bit (left v) * 1 + bit (stands v xs)) (range 0 size) ≡ sum (λ v. 1) (range 0 size) =
      sum-ext (λ v. bit (left v) * 1 + bit (stands v xs)) (λ v. 1) (λ v. omega (arith, mul-one (bit (left v)), bit-either (stands v xs))) (range 0 size) in
      length-append xs (keep left (range 0 size))
      ∙ omega (
        arith,
        rest,
        all,
        sum-add (λ v. bit (left v) * 1) (λ v. bit (stands v xs)) (range 0 size),
        stands-count size xs b d,
        sum_one (range 0 size),
        range_length 0 size,
      )

  left-same : (u v : ℕ) → bit (left u) * bit (eqb u v) ≡ bit (left v) * bit (eqb u v)
  unfolding bit
  left-same u v = go (eqb u v) refl
    where
      go : (t : Bool) → eqb u v ≡ t → bit (left u) * bit t ≡ bit (left v) * bit t
      go true e = ap (λ w. bit (left w) * 1) (eqb-true u v e)
      go false e = mul-zero (bit (left u)) ∙ sym (mul-zero (bit (left v)))

  -- each number below the size stands in it once at most: in the first part, or else in the second
  completed-times : (v : ℕ) → times v (completed size xs) ≤ bit (ltb v size)
  unfolding completed times left bit
  completed-times v =
      let rest : times v (keep left (range 0 size)) ≡ bit (left v) * times v (range 0 size) =
      sum-keep (λ x. bit (eqb x v)) left (range 0 size)
      ∙ sum-ext (λ u. bit (left u) * bit (eqb u v)) (λ u. bit (left v) * bit (eqb u v)) (λ u. left-same u v) (range 0 size)
      ∙ sum-mul (bit (left v)) (λ u. bit (eqb u v)) (range 0 size) in
      omega (
        arith,
        sum-append (λ x. bit (eqb x v)) xs (keep left (range 0 size)),
        rest,
        stands-times v xs d,
        ap (λ n. bit (left v) * n) (range-times v size),
        go (stands v xs) (ltb v size) refl refl,
      )
    where
      go : (s t : Bool) → stands v xs ≡ s → ltb v size ≡ t → bit s + bit (not s) * bit t ≤ bit t
      go true true here low = omega arith
      go false t here low = omega (arith, one-mul (bit t))
      go true false here high =
          let p = place_of v xs here in
          absurd (let w : ⊥ = omega (arith, b (place_in v xs) p.0, p.1, ltb-false v size high) in w)

  pub completed-permutation : Permutation size (completed size xs)
  unfolding is_permutation
  completed-permutation =
      permutation-facts size (completed size xs)
      (rw (
        eq-eqb (length (completed size xs)) size completed-length,
        times_below size (completed size xs) completed-times,
        times-distinct (completed size xs) (λ v. omega (arith, completed-times v, bit-small (ltb v size))),
      ))

picked-append : (list xs ys : List ℕ) → picked list (xs ++ ys) ≡ picked list xs ++ picked list ys
unfolding picked
picked-append list xs ys = map-append (λ place. get_or list place 0) xs ys

-- the entries of B's first part stand at the places that A's first part names
arranged-front : (size : ℕ) (A A' B B' : List ℕ) → Permutation size (A ++ A') → length A ≡ length B → picked (arranged (A ++ A') (B ++ B')) A ≡ B
arranged-front size A A' B B' p e =
    ext_get_or 0 (picked (arranged (A ++ A') (B ++ B')) A) B (picked-length (arranged (A ++ A') (B ++ B')) A ∙ e) (λ i h.
    let long = picked-length (arranged (A ++ A') (B ++ B')) A in
    let whole = p.long in
    let parts = length-append A A' in
    picked-at (arranged (A ++ A') (B ++ B')) A i (omega arith)
    ∙ ap (λ v. get_or (arranged (A ++ A') (B ++ B')) v 0) (sym (get_or-append A A' 0 i (omega arith)))
    ∙ arranged-at size (A ++ A') (B ++ B') p i (omega arith)
    ∙ get_or-append B B' 0 i (omega arith))

module _ (size : ℕ) (A B : List ℕ) (p : Permutation size (completed size A)) (e : length A ≡ length B) where
  -- B arranged by A, both completed, has B at the places A
  pub completed-shown : picked (arranged (completed size A) (completed size B)) A ≡ B
  unfolding completed
  completed-shown = arranged-front size A (keep (λ v. not (stands v A)) (range 0 size)) B (keep (λ v. not (stands v B)) (range 0 size)) p e

  -- a list carried from the places B to the places A, both completed, has at A what it had at B
  pub carried-shown : (l : List ℕ) → picked (arranged (completed size A) (picked l (completed size B))) A ≡ picked l B
  unfolding completed
  carried-shown l =
      let left_a = keep (λ v. not (stands v A)) (range 0 size) in
      let left_b = keep (λ v. not (stands v B)) (range 0 size) in
      ap (λ m. picked (arranged (completed size A) m) A) (picked-append l B left_b)
      ∙ arranged-front size A left_a (picked l B) (picked l left_b) p (e ∙ sym (picked-length l B))
