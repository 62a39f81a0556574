-- A list of one element repeated: a part of it is another such list (`drop-replicate`), and every place holds the element
-- (`get_or-replicate-same`).
use mathlib.Core.Path.{◌≡◌, refl, ◌∙◌}
use Prim.Native.Nat.{ℕ, zero, suc, ◌-◌}
use native.Mathlib.Nat.{sub-zero, zero-sub, suc-sub-suc}
use lib.ListN.{drop, get_or, replicate}

module _ {A : Type 0} where
  pub drop-replicate : (n count : ℕ) (a : A) → drop n (replicate count a) ≡ replicate (count - n) a
  drop-replicate zero count a = rw (sub-zero count)
  drop-replicate (suc n) zero a = rw (zero-sub (suc n))
  drop-replicate (suc n) (suc count) a = drop-replicate n count a ∙ rw (suc-sub-suc count n)

  -- past the end too, where the element is the default
  pub get_or-replicate-same : (count i : ℕ) (a : A) → get_or (replicate count a) i a ≡ a
  get_or-replicate-same zero i a = refl
  get_or-replicate-same (suc count) zero a = refl
  get_or-replicate-same (suc count) (suc i) a = get_or-replicate-same count i a
