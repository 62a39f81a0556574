-- Marks: a pass over numbers that marks each one and stops at a marked one finds out whether they are distinct (`unmarked-blank`).
-- Rests on `unmarked-set`: a number marked first is one that may not stand later.
use mathlib.Core.Path.{◌≡◌, refl, sym}
use mathlib.Core.Bool.{Bool, true, false, not, ◌&&◌, ◌||◌}
use mathlib.Core.List.{List, [], ◌∷◌}
use Prim.Native.Nat.{ℕ, ◌<◌}
use borrow.Author.Tests.{eqb-true, eqb-false}
use lib.Dec.{eqb}
use lib.ListN.{length, get_or, set, replicate}
use lib.Seq.{get_or-set_same, get_or-set_other}
use Rattle.lists.specs.Distinct.{stands, distinct}
use Rattle.lists.proofs.Replicate.{get_or-replicate-same}

-- the numbers are distinct, and none is marked
unfoldable pub unmarked : List Bool → List ℕ → Bool
unmarked marks [] = true
unmarked marks (x ∷ xs) = not (get_or marks x false) && (not (stands x xs) && unmarked marks xs)

pub unmarked-blank : (size : ℕ) (xs : List ℕ) → unmarked (replicate size false) xs ≡ distinct xs
unfolding unmarked distinct
unmarked-blank size [] = refl
unmarked-blank size (x ∷ xs) = rw (get_or-replicate-same size x false, unmarked-blank size xs)

pub unmarked-set : (marks : List Bool) (x : ℕ) (ys : List ℕ) → x < length marks → unmarked (set marks x true) ys ≡ not (stands x ys) && unmarked marks ys
unfolding unmarked stands
unmarked-set marks x [] h = refl
unmarked-set marks x (y ∷ ys) h = rw (unmarked-set marks x ys h) (go (eqb x y) refl)
  where
    swap : (a b c d : Bool) → not a && (not b && (not c && d)) ≡ not (false || c) && (not a && (not b && d))
    swap true b true d = refl
    swap true b false d = refl
    swap false true true d = refl
    swap false true false d = refl
    swap false false true d = refl
    swap false false false d = refl

    go : (t : Bool) → eqb x y ≡ t
        → not (get_or (set marks x true) y false) && (not (stands y ys) && (not (stands x ys) && unmarked marks ys))
        ≡ not (t || stands x ys) && (not (get_or marks y false) && (not (stands y ys) && unmarked marks ys))
    go true e = rw (← eqb-true x y e, get_or-set_same marks x true false h)
    go false e =
        rw (get_or-set_other marks x y true false (λ f. eqb-false x y e (sym f)))
        (swap (get_or marks y false) (stands y ys) (stands x ys) (unmarked marks ys))
