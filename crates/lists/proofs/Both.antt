-- Two tests joined by `&&`: both hold exactly if the joined test does (`both_true`, `true-both`). So a chain of bounds is taken apart
-- into its tests.
use mathlib.Core.Path.{◌≡◌, refl}
use mathlib.Core.Bool.{Bool, true, false, ◌&&◌, false≢true}

pub both_true : (t u : Bool) → t && u ≡ true → (t ≡ true) × (u ≡ true)
both_true true u e = (refl, e)
both_true false u e = absurd (false≢true e)

pub true-both : {t u : Bool} → t ≡ true → u ≡ true → t && u ≡ true
true-both {t} {u} e f = rw (e, f)
