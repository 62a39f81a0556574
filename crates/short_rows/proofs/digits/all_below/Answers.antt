-- `short_rows::digits::all_below` meets its contract: `all` gives what the definition gives, digit by digit.
use mathlib.Core.Path.{◌≡◌, refl, ◌∙◌}
use mathlib.Core.Bool.{Bool, true, false, cond, ◌&&◌}
use mathlib.Core.List.{List, [], ◌∷◌}
use Prim.Native.Nat.{ℕ}
use lib.Dec.{ltb}
use Rattle.std.proofs.Common.{rules, tests}
use Rattle.std.specs.List.{list_all}
use Rattle.std.proofs.lemmas.Iterator.{YieldsList-from_slice}
use Rattle.std.proofs.lemmas.Iterator.Search.{all_from_yields_List}
use Rattle.lists.specs.Below.{all_below}
use Rattle.short_rows.proofs.digits.all_below.Goals as goal

same : (n : ℕ) (l : List ℕ) → list_all (λ d. ltb d n) l ≡ all_below n l
unfolding all_below
same n [] = refl
same n (d ∷ l) = go (ltb d n) (same n l)
  where
    go : (t : Bool) → list_all (λ d. ltb d n) l ≡ all_below n l → t && list_all (λ d. ltb d n) l ≡ cond t (all_below n l) false
    go true e = e
    go false e = refl

pub returns : goal.returns
returns c = let a = c.args in
    all_from_yields_List (λ d. ltb d a.n) _ _ c.all.result c.all.ensures.ran (YieldsList-from_slice a.digits.now cc) (λ x b q k. search (rules, tests))
    ∙ same a.n a.digits.now
