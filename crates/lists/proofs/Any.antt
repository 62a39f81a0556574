-- Some element of a list has a property (`Any`): it stands at a place (`Any-at`), the property may be weakened (`Any-imp`), and a sum
-- that is not 0 has a term that is not (`Any-sum`).
use mathlib.Core.List.{List, [], ◌∷◌}
use Prim.Native.Nat.{ℕ, zero, suc, ◌<◌}
use native.Mathlib.Nat.{not-suc-le-zero}
use native.Mathlib.Decide.{dec_lt}
use native.Mathlib.Omega.{arith}
use lib.ListN.{length, get_or}
use Rattle.lists.specs.Any.{Any, any_here, any_later}
use Rattle.lists.specs.Sums.{sum}

module _ {A : Type 0} where
  pub Any-imp : {P Q : A → Type 0} → ((x : A) → P x → Q x) → {xs : List A} → Any P xs → Any Q xs
  Any-imp h (any_here {x = x} p) = any_here (h x p)
  Any-imp h (any_later a) = any_later (Any-imp h a)

  pub Any-at : {P : A → Type 0} (d : A) (xs : List A) (i : ℕ) → i < length xs → P (get_or xs i d) → Any P xs
  Any-at d [] i h p = absurd (not-suc-le-zero h)
  Any-at d (x ∷ xs) zero h p = any_here p
  Any-at d (x ∷ xs) (suc i) h p = any_later (Any-at d xs i (omega arith) p)

  -- where a sum is not 0, some term is not
  pub Any-sum : (w : A → ℕ) (xs : List A) → 0 < sum w xs → Any (λ x. 0 < w x) xs
  unfolding sum
  Any-sum w [] h = absurd (omega arith)
  Any-sum w (x ∷ xs) h = go (dec_lt 0 (w x)) (Any-sum w xs)
    where
      go : Dec (0 < w x) → (0 < sum w xs → Any (λ y. 0 < w y) xs) → Any (λ y. 0 < w y) (x ∷ xs)
      go (yes p) f = any_here p
      go (no p) f = any_later (f (omega arith))
