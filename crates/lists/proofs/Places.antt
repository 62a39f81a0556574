-- Numbers by quotient and rest: equal numbers have equal parts (`same_number`). And parts of a buffer behind a first part (`put-later`, `cut_later`).
use mathlib.Core.Path.{◌≡◌, sym, ap, ap₂, ◌∙◌}
use mathlib.Core.List.{List, ◌++◌, append_assoc}
use Prim.Native.Nat.{ℕ, ◌+◌, ◌*◌, ◌<◌}
use native.Mathlib.Decide.{dec_lt}
use native.Mathlib.Omega.{arith}
use lib.ListN.{length, take, drop}
use lib.Seq.{take-append-add, drop-append-add}
use Rattle.lists.specs.Parts.{cut, put}
use Rattle.lists.proofs.Cuts.{slot-end}

module _ (m q k p i : ℕ) (hk : k < m) (hi : i < m) (same : q * m + k ≡ p * m + i) where
  same-quotient : q ≡ p
  same-quotient = go (dec_lt q p) (dec_lt p q)
    where
      go : Dec (q < p) → Dec (p < q) → q ≡ p
      go (yes h) d = absurd (let w : ⊥ = omega (arith, slot-end q p m h, same) in w)
      go (no h) (yes l) = absurd (let w : ⊥ = omega (arith, slot-end p q m l, same) in w)
      go (no h) (no l) = omega arith

  pub same_number : (q ≡ p) × (k ≡ i)
  same_number = (same-quotient, omega (arith, same, ap (λ (n : ℕ). n * m) same-quotient))

module _ (S : ℕ) (first rest : List ℕ) (long : length first ≡ S) where
  take-later : (at : ℕ) → take (S + at) (first ++ rest) ≡ first ++ take at rest
  take-later at = ap (λ (n : ℕ). take (n + at) (first ++ rest)) (sym long) ∙ take-append-add first rest at

  drop-later : (at : ℕ) → drop (S + at) (first ++ rest) ≡ drop at rest
  drop-later at = ap (λ (n : ℕ). drop (n + at) (first ++ rest)) (sym long) ∙ drop-append-add first rest at

  pub cut_later : (at size : ℕ) → cut (S + at) size (first ++ rest) ≡ cut at size rest
  cut_later at size = ap (take size) (drop-later at)

  pub put-later : (at : ℕ) (bytes : List ℕ) → put (S + at) bytes (first ++ rest) ≡ first ++ put at bytes rest
  put-later at bytes =
      ap₂ (λ (s t : List ℕ). s ++ (bytes ++ drop (length bytes) t)) (take-later at) (drop-later at)
      ∙ append_assoc first (take at rest) (bytes ++ drop (length bytes) (drop at rest))
