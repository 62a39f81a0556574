-- A list that is filled from its first place on with what a function gives for each (`FilledBy`), the invariant of a loop that does it: `filled_none`,
-- `filled_more`, and at its end `filled-all`.
use Prim.Native.Nat.{ℕ, ◌+◌, ◌<◌}
use native.Mathlib.Nat.{not-suc-le-zero}
use native.Mathlib.Omega.{arith}
use mathlib.Core.Path.{◌≡◌, refl, sym, ap, ◌∙◌}
use mathlib.Core.Bool.{Bool, true, false}
use mathlib.Core.List.{List, map}
use borrow.Author.Tests.{eqb-true, eqb-false}
use lib.Dec.{eqb}
use lib.ListN.{length, get_or, set}
use lib.Seq.{ext_get_or, get_or-set_same, get_or-set_other}
use Rattle.lists.specs.Ranges.{range}
use Rattle.lists.proofs.Mapped.{mapped-length, mapped_at}

-- the first i places
pub record FilledBy (f : ℕ → ℕ) (i : ℕ) (l : List ℕ) : Type 0 where
  pub holds : (j : ℕ) → j < i → get_or l j 0 ≡ f j

module _ (f : ℕ → ℕ) where
  pub filled_none : (l : List ℕ) → FilledBy f 0 l
  filled_none l = record { holds = λ j h. absurd (not-suc-le-zero h) }

  pub filled_more : (i x : ℕ) (l : List ℕ) → i < length l → x ≡ f i → FilledBy f i l → FilledBy f (i + 1) (set l i x)
  filled_more i x l h e w = record { holds = λ j k. go j k (eqb j i) refl }
    where
      go : (j : ℕ) → j < i + 1 → (t : Bool) → eqb j i ≡ t → get_or (set l i x) j 0 ≡ f j
      go j k true q = let same = eqb-true j i q in ap (λ (n : ℕ). get_or (set l i x) n 0) same ∙ get_or-set_same l i x 0 h ∙ e ∙ ap f (sym same)
      go j k false q =
          get_or-set_other l i j x 0 (λ s. eqb-false j i q s) ∙ w.holds j (let n : j ≡ i → ⊥ = eqb-false j i q in omega arith)

  pub filled-all : (n : ℕ) (l : List ℕ) → length l ≡ n → FilledBy f n l → l ≡ map f (range 0 n)
  filled-all n l long w =
      ext_get_or 0 l (map f (range 0 n)) (long ∙ sym (mapped-length f 0 n))
      (λ i h. w.holds i (omega (arith, long)) ∙ sym (mapped_at f 0 n i (omega (arith, long))))
