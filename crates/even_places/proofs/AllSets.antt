-- The sets that a query goes by: all sets of K messages but the empty one, each of them once (`alike_all`); the layout repeats each by
-- the number of its rows (`layout-by-set`).
use Prim.Native.Nat.{ℕ, suc, ◌-◌, ◌^◌, ◌≤◌, ◌<◌}
use native.Mathlib.Omega.{arith}
use mathlib.Core.Path.{◌≡◌, refl, sym, ap, ◌∙◌, fun_ext}
use mathlib.Core.List.{List, [], ◌∷◌, flat_map}
use mathlib.Core.Bool.{Bool, true, false}
use borrow.Author.Tests.{eqb-true, eqb-false, lt-ltb}
use lib.Dec.{eqb}
use lib.ListN.{length, replicate}
use Rattle.lists.specs.Any.{Any}
use Rattle.lists.specs.Ranges.{range}
use Rattle.lists.specs.Sums.{bit, sum, All}
use Rattle.lists.proofs.Any.{Any-imp, Any-sum}
use Rattle.lists.proofs.Distinct.{times, range-times}
use Rattle.lists.proofs.Each.{All-imp, All-every, All-flatMap, All-replicate}
use Rattle.lists.proofs.Joined.{flat_map-flat_map, flat_map-all}
use Rattle.lists.proofs.Sums.{sum-flat_map, sum-ext, sum-all, sum-zero}
use Rattle.even_places.specs.Rule.{ones_in, sets, all_sets, layout, alike}
use Rattle.even_places.proofs.SetLaws.{alike-eq, alike-one}
use Rattle.even_places.proofs.BlockRows.{sets-fit}

-- a set of K messages that is not empty
pub record IsSet (K : ℕ) (A : List Bool) : Type 0 where
  pub long : length A ≡ K
  pub some : 1 ≤ ones_in A

pub all-sets : (K : ℕ) → All (IsSet K) (all_sets K)
unfolding all_sets
all-sets K =
    All-flatMap (λ b. sets K (suc b))
    (All-every (λ b. All-imp (λ A h. record { long = h.0; some = omega (arith, h.1) }) (sets-fit K (suc b))) (range 0 K))

pub ones-most : (A : List Bool) → ones_in A ≤ length A
unfolding ones_in sum bit
ones-most [] = omega arith
ones-most (true ∷ A) = omega (arith, ones-most A)
ones-most (false ∷ A) = omega (arith, ones-most A)

pub alike_all : (K : ℕ) (X : List Bool) → length X ≡ K → 1 ≤ ones_in X → sum (λ A. bit (alike X A)) (all_sets K) ≡ 1
unfolding all_sets bit times
alike_all K X e h =
    sum-flat_map (λ A. bit (alike X A)) (λ b. sets K (suc b)) (range 0 K)
    ∙ sum-ext (λ b. sum (λ A. bit (alike X A)) (sets K (suc b))) (λ b. bit (eqb b (ones_in X - 1))) (λ b. block b (eqb b (ones_in X - 1)) refl) (range 0 K)
    ∙ range-times (ones_in X - 1) K ∙ ap bit (lt-ltb (ones_in X - 1) K (omega (arith, ones-most X)))
  where
    block : (b : ℕ) (t : Bool) → eqb b (ones_in X - 1) ≡ t → sum (λ A. bit (alike X A)) (sets K (suc b)) ≡ bit t
    block b true t = alike-one X K (suc b) e (omega (arith, eqb-true b (ones_in X - 1) t))
    block b false t =
        sum-all (λ A. bit (alike X A)) (λ A. 0)
        (All-imp (λ A f. other A (alike X A) refl (λ same. eqb-false b (ones_in X - 1) t (omega (arith, f.1)))) (sets-fit K (suc b)))
        ∙ sum-zero (sets K (suc b))
      where
        other : (A : List Bool) (u : Bool) → alike X A ≡ u → (ones_in X ≡ ones_in A → ⊥) → bit u ≡ 0
        other A true u d = absurd (d (ap ones_in (alike-eq X A u)))
        other A false u d = refl

pub set-stands : (K : ℕ) (A : List Bool) → IsSet K A → Any (λ B. A ≡ B) (all_sets K)
unfolding bit
set-stands K A s = Any-imp (λ B. same B (alike A B) refl) (Any-sum (λ B. bit (alike A B)) (all_sets K) (omega (arith, alike_all K A s.long s.some)))
  where
    same : (B : List Bool) (t : Bool) → alike A B ≡ t → 0 < bit t → A ≡ B
    same B true e l = alike-eq A B e
    same B false e l = absurd (let w : ⊥ = omega arith in w)

pub layout-by-set : (N K : ℕ) → layout N K ≡ flat_map (λ A. replicate ((N - 1) ^ (ones_in A - 1)) A) (all_sets K)
unfolding layout all_sets
layout-by-set N K =
    ap (λ g. flat_map g (range 0 K)) (fun_ext (λ b. flat_map-all (replicate ((N - 1) ^ b)) run (All-imp (here b) (sets-fit K (suc b)))))
    ∙ sym (flat_map-flat_map run (λ b. sets K (suc b)) (range 0 K))
  where
    run : List Bool → List (List Bool)
    run A = replicate ((N - 1) ^ (ones_in A - 1)) A

    here : (b : ℕ) (A : List Bool) → (length A ≡ K) × (ones_in A ≡ suc b) → replicate ((N - 1) ^ b) A ≡ run A
    here b A h = ap (λ j. replicate ((N - 1) ^ j) A) (let e : b ≡ ones_in A - 1 = omega (arith, h.1) in e)

-- the sets of a query's rows are sets of K messages
pub layout-long : (N K : ℕ) → All (λ A. length A ≡ K) (layout N K)
layout-long N K =
    rw (layout-by-set N K)
    (All-flatMap (λ A. replicate ((N - 1) ^ (ones_in A - 1)) A) (All-imp (λ A s. All-replicate ((N - 1) ^ (ones_in A - 1)) A s.long) (all-sets K)))
