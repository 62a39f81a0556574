-- A key of the turning code is the other digits and then the turn (`key-joined`), which are found in it again (`joined-turn`, `joined-others`). Of
-- a valid key, the other digits are a valid key of the short code (`others-length`, `others-good`), and the turn is below N (`turn_below`).
use mathlib.Core.Path.{◌≡◌, refl, sym, ap, ◌∙◌}
use mathlib.Core.Bool.{true}
use mathlib.Core.List.{List, [], ◌∷◌, ◌++◌}
use Prim.Native.Nat.{ℕ, suc, ◌+◌, ◌-◌, ◌<◌}
use native.Mathlib.Omega.{arith}
use lib.ListN.{length, get_or, take, length-append}
use lib.Seq.{length-take-le, take_all, take-suc, take_at, get_or_at}
use Rattle.lists.specs.Below.{all_below}
use Rattle.lists.proofs.Below.{all_below-below, below-all_below, below-take}
use Rattle.turn_code.specs.Turn.{turn_of, other_digits}

module _ (front : List ℕ) (r : ℕ) where
  pub joined_length : length (front ++ (r ∷ [])) ≡ length front + 1
  joined_length = length-append front (r ∷ [])

  last-is : length (front ++ (r ∷ [])) - 1 ≡ length front
  last-is = omega (arith, joined_length)

  pub joined-turn : turn_of (front ++ (r ∷ [])) ≡ r
  joined-turn = ap (λ (i : ℕ). get_or (front ++ (r ∷ [])) i 0) last-is ∙ get_or_at front r [] 0 (length front) refl

  pub joined-others : other_digits (front ++ (r ∷ [])) ≡ front
  joined-others = ap (λ (i : ℕ). take i (front ++ (r ∷ []))) last-is ∙ take_at front (r ∷ []) (length front) refl

pub key-joined : (key : List ℕ) → 0 < length key → other_digits key ++ (turn_of key ∷ []) ≡ key
key-joined key h =
    let last = length key - 1 in
    sym (take-suc key last 0 (omega arith)) ∙ take_all (suc last) key (omega arith)

pub others-length : (key : List ℕ) → length (other_digits key) ≡ length key - 1
others-length key = length-take-le (length key - 1) key (omega arith)

-- a key whose digits are all below N
module _ (N : ℕ) (key : List ℕ) (good : all_below N key ≡ true) where
  pub others-good : all_below N (other_digits key) ≡ true
  others-good = below-all_below N (other_digits key) (below-take N (length key - 1) key (all_below-below N key good))

  pub turn_below : 0 < length key → turn_of key < N
  turn_below some = all_below-below N key good (length key - 1) (omega arith)
