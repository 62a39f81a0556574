-- Rows sorted by set: each row's set is one of the sets of its size, once, so that no row is lost and a sum over the rows by set goes
-- over the rows (`by_set-sum`). Rests on the laws of sets of one size (Choose).
use Prim.Native.Nat.{ℕ, zero, suc, ◌*◌}
use native.Mathlib.Nat.{zero-add, mul-one, mul_comm, add_comm}
use native.Mathlib.Numerals.{add-one}
use native.Mathlib.Omega.{arith}
use mathlib.Core.Path.{◌≡◌, refl, ap, ◌∙◌}
use mathlib.Core.List.{List, [], ◌∷◌}
use mathlib.Core.Option.{none, some}
use lib.ListN.{length}
use Rattle.lists.specs.Sums.{bit, keep, sum, All}
use Rattle.lists.proofs.Sums.{sum-mul, sum-ext, sum-all, sum-zero, sum-flat_map, sum-keep, sum-swap}
use Rattle.lists.proofs.Each.{All-imp}
use Rattle.even_places.specs.Rule.{sets, Row, is_some, same, of_set, by_set}
use Rattle.even_places.proofs.Choose.{sets-none, sets-some}
use Rattle.even_places.proofs.Rows.{somes, Fits}

-- a row's set stands once among the sets of its size
same_once : (r : Row) → sum (λ A. bit (same A r)) (sets (length r) (somes r)) ≡ 1
unfolding somes sum is_some bit sets same
same_once [] = refl
same_once (none ∷ r) = rw (zero-add (somes r)) (go (somes r) (same_once r))
  where
    go : (b : ℕ) → sum (λ A. bit (same A r)) (sets (length r) b) ≡ 1 → sum (λ A. bit (same A (none ∷ r))) (sets (suc (length r)) b) ≡ 1
    go zero e = sets-none (λ A. bit (same A (none ∷ r))) (length r) ∙ e
    go (suc b) e = sets-some (λ A. bit (same A (none ∷ r))) (length r) b ∙ omega (arith, e, sum-zero (sets (length r) b))
same_once (some x ∷ r) =
    ap (λ b. sum (λ A. bit (same A (some x ∷ r))) (sets (suc (length r)) b)) (add_comm 1 (somes r) ∙ add-one (somes r))
    ∙ sets-some (λ A. bit (same A (some x ∷ r))) (length r) (somes r)
    ∙ omega (arith, same_once r, sum-zero (sets (length r) (suc (somes r))))

pub by_set-sum : (h : Row → ℕ) (K b : ℕ) {rs : List Row} → All (Fits K b) rs → sum h (by_set (sets K b) rs) ≡ sum h rs
unfolding by_set of_set
by_set-sum h K b {rs} a =
    sum-flat_map h (λ A. keep (same A) rs) (sets K b)
    ∙ sum-ext (λ A. sum h (keep (same A) rs)) (λ A. sum (λ r. bit (same A r) * h r) rs) (λ A. sum-keep h (same A) rs) (sets K b)
    ∙ sum-swap (λ A r. bit (same A r) * h r) (sets K b) rs
    ∙ sum-all (λ r. sum (λ A. bit (same A r) * h r) (sets K b)) h (All-imp once a)
  where
    once : (r : Row) → Fits K b r → sum (λ A. bit (same A r) * h r) (sets K b) ≡ h r
    once r f =
        sum-ext (λ A. bit (same A r) * h r) (λ A. h r * bit (same A r)) (λ A. mul_comm (bit (same A r)) (h r)) (sets K b)
        ∙ sum-mul (h r) (λ A. bit (same A r)) (sets K b)
        ∙ ap (λ s. h r * s) (rw (← f.long, ← f.many) (same_once r))
        ∙ mul-one (h r)
