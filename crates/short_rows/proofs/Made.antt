-- An array that `array::from_fn` makes, by a closure that leaves what it captures as it is: the list of the closure's values (`made-all`).
use mathlib.Core.Path.{◌≡◌, refl, subst, ◌∙◌}
use mathlib.Core.Bool.{Bool, true, false}
use mathlib.Core.List.{List, map}
use Prim.Native.Nat.{ℕ, zero, suc, ◌+◌, ◌≤◌, ◌<◌}
use native.Mathlib.Omega.{arith}
use borrow.Author.Tests.{eqb-true, eqb-false}
use denote.Param.Members.{Mut, Called}
use lib.Dec.{eqb}
use lib.ListN.{get_or}
use Rattle.std.specs.Array.{IsFromFnResultFrom, IsFromFnResult}
use Rattle.lists.specs.Ranges.{range}
use Rattle.lists.proofs.Filled.{filled-all}

module _ {F : Type 0} (g : Mut F (ℕ × Unit {0}) ℕ) (value : ℕ → ℕ) (f : F)
    (pure : (i y : ℕ) (q : F) → Called g f (i, tt) y q → (q ≡ f) × (y ≡ value i)) (ys : List ℕ) where
  made_from : (n i : ℕ) (p : F) → p ≡ f → IsFromFnResultFrom g p ys i n → (j : ℕ) → i ≤ j → j < i + n → get_or ys j 0 ≡ value j
  made_from zero i p same made j low high = absurd (let w : ⊥ = omega arith in w)
  made_from (suc n) i p same made j low high =
      let now = pure i made.1 made.0 (subst (λ (p : F). Called g p (i, tt) made.1 made.0) same made.3) in
      go (eqb j i) refl (made.2.1 0 ∙ now.1) (λ h. made_from n (i + 1) made.0 now.0 made.4 j h (omega arith))
    where
      go : (t : Bool) → eqb j i ≡ t → get_or ys i 0 ≡ value i → (i + 1 ≤ j → get_or ys j 0 ≡ value j) → get_or ys j 0 ≡ value j
      go true e here later = rw (eqb-true j i e) here
      go false e here later = later (let apart = eqb-false j i e in omega arith)

  pub made-all : (n : ℕ) → IsFromFnResult g f ys n → ys ≡ map value (range 0 n)
  made-all n made = filled-all value n ys made.long (record { holds = λ j h. made_from n 0 f refl made.each j (omega arith) (omega arith) })
