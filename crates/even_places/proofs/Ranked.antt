-- How sets stand among the others of their block: the sets without k of one block are those with k of the next, in order, without k
-- (`taken_out`); all sets of one size among all sets (`of-block`); and what stands before a set in a list that has it once
-- (`before-seam`).
use Prim.Native.Nat.{ℕ, zero, suc, ◌+◌, ◌-◌, ◌≤◌, ◌<◌}
use native.Mathlib.Nat.{not-suc-le-zero}
use native.Mathlib.Omega.{arith}
use mathlib.Core.Path.{◌≡◌, refl, sym, ap, ap₂, ◌∙◌}
use mathlib.Core.Logic.{◌≢◌}
use mathlib.Core.List.{List, [], ◌∷◌, ◌++◌, map, map-map, append-nil, flat_map}
use mathlib.Core.Bool.{Bool, true, false, not}
use borrow.Author.Tests.{eq-eqb, ne_eqb}
use lib.ListN.{set}
use lib.Dec.{eqb}
use Rattle.lists.specs.Sums.{bit, keep, keep_if, sum}
use Rattle.lists.specs.Ranges.{range}
use Rattle.lists.proofs.Sums.{sum-append}
use Rattle.lists.proofs.Each.{All-imp, All-every}
use Rattle.lists.proofs.Keep.{keep_all, keep-map, keep_append, keep-nothing, keep-flat_map}
use Rattle.lists.proofs.Joined.{flat_map-nothing, flat_map-append}
use Rattle.lists.proofs.Mapped.{map-append}
use Rattle.lists.proofs.Ranges.{range-around, All-from}
use Rattle.even_places.specs.Rule.{has, ones_in, sets, all_sets, alike}
use Rattle.even_places.proofs.SetLaws.{alike_self}
use Rattle.even_places.proofs.BlockRows.{sets-fit, sets-zero, has-none}
use Rattle.even_places.proofs.RepeatedSets.{before, before_if}

-- ---- The sets with k, without it

-- with one message more in front, which is in all sets or in none
module _ (a : Bool) (X : List (List Bool)) where
  first-has : keep (has 0) (map (λ A. a ∷ A) X) ≡ map (λ A. a ∷ A) (keep (λ A. a) X)
  unfolding has
  first-has = keep-map (has 0) (λ A. a ∷ A) X

  first-not : keep (λ A. not (has 0 A)) (map (λ A. a ∷ A) X) ≡ map (λ A. a ∷ A) (keep (λ A. not a) X)
  unfolding has
  first-not = keep-map (λ A. not (has 0 A)) (λ A. a ∷ A) X

  later-not : (k : ℕ) → keep (λ A. not (has (suc k) A)) (map (λ A. a ∷ A) X) ≡ map (λ A. a ∷ A) (keep (λ A. not (has k A)) X)
  unfolding has
  later-not k = keep-map (λ A. not (has (suc k) A)) (λ A. a ∷ A) X

  later-out : (k : ℕ) → map (λ A. set A (suc k) false) (keep (has (suc k)) (map (λ A. a ∷ A) X)) ≡ map (λ A. a ∷ A) (map (λ A. set A k false) (keep (has k) X))
  unfolding has
  later-out k =
      ap (map (λ A. set A (suc k) false)) (keep-map (has (suc k)) (λ A. a ∷ A) X)
      ∙ map-map (λ A. set A (suc k) false) (λ A. a ∷ A) (keep (has k) X)
      ∙ sym (map-map (λ A. a ∷ A) (λ A. set A k false) (keep (has k) X))

keep-each : (X : List (List Bool)) → keep (λ A. true) X ≡ X
keep-each X = keep_all (λ A. true) (All-every (λ A. refl) X)

keep-no : (X : List (List Bool)) → keep (λ A. false) X ≡ []
keep-no X = keep-nothing (λ A. false) (All-every (λ A. refl) X)

none-with : (K k : ℕ) → keep (has k) (sets K 0) ≡ []
unfolding keep keep_if
none-with K k = rw (sets-zero K, has-none K k)

pub taken_out : (K k b : ℕ) → k < K → map (λ A. set A k false) (keep (has k) (sets K (suc b))) ≡ keep (λ A. not (has k A)) (sets K b)
unfolding sets
taken_out zero k b h = absurd (not-suc-le-zero h)
taken_out (suc K) zero b h = front (sets K b) (sets K (suc b)) ∙ sym (without b)
  where
    front : (X Y : List (List Bool)) → map (λ A. set A 0 false) (keep (has 0) (map (λ A. true ∷ A) X ++ map (λ A. false ∷ A) Y)) ≡ map (λ A. false ∷ A) X
    front X Y =
        rw (
          keep_append (has 0) (map (λ A. true ∷ A) X) (map (λ A. false ∷ A) Y),
          first-has true X,
          first-has false Y,
          keep-each X,
          keep-no Y,
          append-nil (map (λ A. true ∷ A) X),
        )
        (map-map (λ A. set A 0 false) (λ A. true ∷ A) X)

    without : (b : ℕ) → keep (λ A. not (has 0 A)) (sets (suc K) b) ≡ map (λ A. false ∷ A) (sets K b)
    without zero = first-not false (sets K 0) ∙ ap (map (λ A. false ∷ A)) (keep-each (sets K 0))
    without (suc b) =
        keep_append (λ A. not (has 0 A)) (map (λ A. true ∷ A) (sets K b)) (map (λ A. false ∷ A) (sets K (suc b)))
        ∙ rw (first-not true (sets K b), first-not false (sets K (suc b)), keep-no (sets K b), keep-each (sets K (suc b)))
taken_out (suc K) (suc k) b h = out (sets K b) (sets K (suc b)) ∙ go b (λ c. taken_out K k c (omega arith))
  where
    out : (X Y : List (List Bool))
        → map (λ A. set A (suc k) false) (keep (has (suc k)) (map (λ A. true ∷ A) X ++ map (λ A. false ∷ A) Y))
        ≡ map (λ A. true ∷ A) (map (λ A. set A k false) (keep (has k) X)) ++ map (λ A. false ∷ A) (map (λ A. set A k false) (keep (has k) Y))
    out X Y =
        ap (map (λ A. set A (suc k) false)) (keep_append (has (suc k)) (map (λ A. true ∷ A) X) (map (λ A. false ∷ A) Y))
        ∙ map-append (λ A. set A (suc k) false) (keep (has (suc k)) (map (λ A. true ∷ A) X)) (keep (has (suc k)) (map (λ A. false ∷ A) Y))
        ∙ ap₂ (λ l m. l ++ m) (later-out true X k) (later-out false Y k)

    go : (b : ℕ) → ((c : ℕ) → map (λ A. set A k false) (keep (has k) (sets K (suc c))) ≡ keep (λ A. not (has k A)) (sets K c))
        → map (λ A. true ∷ A) (map (λ A. set A k false) (keep (has k) (sets K b)))
        ++ map (λ A. false ∷ A) (map (λ A. set A k false) (keep (has k) (sets K (suc b))))
        ≡ keep (λ A. not (has (suc k) A)) (sets (suc K) b)
    go zero ih = rw (none-with K k, ih 0, later-not false (sets K 0) k)
    go (suc b) ih =
        rw (ih b, ih (suc b))
        (sym (keep_append (λ A. not (has (suc k) A)) (map (λ A. true ∷ A) (sets K b)) (map (λ A. false ∷ A) (sets K (suc b)))
        ∙ ap₂ (λ l m. l ++ m) (later-not true (sets K b) k) (later-not false (sets K (suc b)) k)))

-- ---- The sets of one block among all sets

pub of-block : (K b : ℕ) → b < K → keep (λ A. eqb (suc b) (ones_in A)) (all_sets K) ≡ sets K (suc b)
unfolding all_sets flat_map range
of-block K b h =
    keep-flat_map t (λ j. sets K (suc j)) (range 0 K)
    ∙ ap (flat_map g) (range-around K b h)
    ∙ flat_map-append g (range 0 b) (b ∷ range (suc b) (K - suc b))
    ∙ rw (
      flat_map-nothing g (All-from 0 b (λ j l u. other j (λ e. omega arith))),
      flat_map-nothing g (All-from (suc b) (K - suc b) (λ j l u. other j (λ e. omega arith))),
      append-nil (g b),
    )
    (keep_all t (All-imp (λ A f. ap (eqb (suc b)) f.1 ∙ eq-eqb (suc b) (suc b) refl) (sets-fit K (suc b))))
  where
    t : List Bool → Bool
    t A = eqb (suc b) (ones_in A)

    g : ℕ → List (List Bool)
    g j = keep t (sets K (suc j))

    other : (j : ℕ) → j ≢ b → g j ≡ []
    other j d = keep-nothing t (All-imp (λ A f. ap (eqb (suc b)) f.1 ∙ ne_eqb (suc b) (suc j) (λ e. d (omega arith))) (sets-fit K (suc j)))

-- ---- What stands before a set

pub before-seam : (A : List Bool) (X Y : List (List Bool)) → sum (λ B. bit (alike A B)) (X ++ A ∷ Y) ≤ 1 → before A (X ++ A ∷ Y) ≡ X
unfolding before before_if sum bit
before-seam A [] Y e = rw (alike_self A)
before-seam A (B ∷ X) Y e = go (alike A B) e (before-seam A X Y)
  where
    again : 0 < sum (λ C. bit (alike A C)) (X ++ A ∷ Y)
    again = omega (arith, sum-append (λ C. bit (alike A C)) X (A ∷ Y), ap bit (alike_self A))

    go : (t : Bool) → bit t + sum (λ C. bit (alike A C)) (X ++ A ∷ Y) ≤ 1
        → (sum (λ C. bit (alike A C)) (X ++ A ∷ Y) ≤ 1 → before A (X ++ A ∷ Y) ≡ X)
        → before_if t B (before A (X ++ A ∷ Y)) ≡ B ∷ X
    go true f ih = absurd (omega (arith, again))
    go false f ih = ap (λ l. B ∷ l) (ih (omega arith))
