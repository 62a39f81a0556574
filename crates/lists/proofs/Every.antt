-- `every` is true exactly if the test holds of each number below the count (`every_true`, `every-at`). Two tests under it differ at
-- one number (`every_one`). By `every-at`, one computed test shows a rule of a whole table.
use mathlib.Core.Path.{◌≡◌, refl, sym, ap, ap₂, ◌∙◌}
use mathlib.Core.Logic.{◌≢◌}
use mathlib.Core.Bool.{Bool, true, false, ◌&&◌, and-false, and_assoc, and_comm}
use Prim.Native.Nat.{ℕ, zero, suc, ◌+◌, ◌<◌}
use native.Mathlib.Nat.{not-suc-le-zero, le_of_suc-le-suc}
use native.Mathlib.Numerals.{add-one}
use native.Mathlib.Omega.{arith}
use borrow.Author.Tests.{eqb-true, eqb-false}
use lib.Arith.{lt_of_le-ne}
use lib.Dec.{eqb}
use Rattle.lists.specs.Ranges.{every}
use Rattle.lists.proofs.Both.{both_true, true-both}

pub every-none : (test : ℕ → Bool) → every 0 test ≡ true
unfolding every
every-none test = refl

pub every_more : (count : ℕ) (test : ℕ → Bool) → every count test ≡ true → test count ≡ true → every (count + 1) test ≡ true
unfolding every
every_more count test e f = rw (add-one count) (true-both e f)

pub every_true : (count : ℕ) (test : ℕ → Bool) → ((i : ℕ) → i < count → test i ≡ true) → every count test ≡ true
unfolding every
every_true zero test h = refl
every_true (suc count) test h = true-both (every_true count test (λ i l. h i (omega arith))) (h count (omega arith))

pub every-false : (count : ℕ) (test : ℕ → Bool) (i : ℕ) → i < count → test i ≡ false → every count test ≡ false
unfolding every
every-false zero test i l e = absurd (not-suc-le-zero l)
every-false (suc count) test i l e = go (λ h. every-false count test i h e) (eqb i count) refl
  where
    go : (i < count → every count test ≡ false) → (t : Bool) → eqb i count ≡ t → every count test && test count ≡ false
    go below true q = rw (ap test (sym (eqb-true i count q)) ∙ e) (and-false (every count test))
    go below false q = rw (below (let ne : (i ≡ count → ⊥) = eqb-false i count q in omega (arith, ne)))

pub every-at : (count : ℕ) (test : ℕ → Bool) → every count test ≡ true → (i : ℕ) → i < count → test i ≡ true
unfolding every
every-at zero test e i l = absurd (not-suc-le-zero l)
every-at (suc count) test e i l = go (every-at count test (both_true (every count test) (test count) e).0 i) (eqb i count) refl
  where
    go : (i < count → test i ≡ true) → (t : Bool) → eqb i count ≡ t → test i ≡ true
    go below true q = ap test (eqb-true i count q) ∙ (both_true (every count test) (test count) e).1
    go below false q = below (let ne : (i ≡ count → ⊥) = eqb-false i count q in omega (arith, ne))

-- tests that agree on each number below the count
every-ext : (count : ℕ) (f g : ℕ → Bool) → ((p : ℕ) → p < count → f p ≡ g p) → every count f ≡ every count g
unfolding every
every-ext zero f g e = refl
every-ext (suc count) f g e = ap₂ (λ (a b : Bool). a && b) (every-ext count f g (λ p h. e p (omega arith))) (e count (omega arith))

-- f is g but at q, where it asks t besides
pub every_one : (count q : ℕ) (t : Bool) (f g : ℕ → Bool) → q < count → f q ≡ t && g q → ((p : ℕ) → p ≢ q → f p ≡ g p)
    → every count f ≡ t && every count g
unfolding every
every_one zero q t f g h e d = absurd (not-suc-le-zero h)
every_one (suc count) q t f g h e d = go (eqb count q) refl (λ less. every_one count q t f g less e d)
  where
    go : (u : Bool) → eqb count q ≡ u → (q < count → every count f ≡ t && every count g) → every count f && f count ≡ t && (every count g && g count)
    go true u ih =
        let same : count ≡ q = eqb-true count q u in
        ap₂ (λ (a b : Bool). a && b)
        (every-ext count f g (λ p less. d p (λ is. let w : ⊥ = omega arith in w)))
        (ap f same ∙ e ∙ ap (λ n. t && g n) (let back : q ≡ count = omega arith in back))
        ∙ sym (and_assoc (every count g) t (g count)) ∙ ap (λ u. u && g count) (and_comm (every count g) t) ∙ and_assoc t (every count g) (g count)
    go false u ih =
        let other = eqb-false count q u in
        let less : q < count = lt_of_le-ne (le_of_suc-le-suc h) (λ is. other (let back : count ≡ q = omega arith in back)) in
        ap₂ (λ (a b : Bool). a && b) (ih less) (d count other) ∙ and_assoc t (every count g) (g count)
