-- Whether a text begins with a name: as the library tests it (`begins-pointwise`, `starts-zero`), and as one equation, the text is the name
-- and what follows (`begins-split`, `begins-joined`).
use mathlib.Core.Path.{◌≡◌, refl, sym, ap, ap₂, ◌∙◌}
use mathlib.Core.Bool.{Bool, true, ◌&&◌, and-true}
use mathlib.Core.List.{List, [], ◌∷◌, ◌++◌}
use Prim.Native.Nat.{ℕ}
use native.Mathlib.Omega.{arith}
use borrow.Author.Tests.{eq-eqb, eqb-true}
use lib.Dec.{eqb}
use lib.ListN.{length, get_or, take, drop}
use lib.Pointwise.{pointwise}
use Rattle.lists.proofs.Both.{both_true}
use Rattle.lists.proofs.Distinct.{eqb_comm}
use Rattle.text_lines.specs.Lines.{begins}

-- the library's test of a text that begins with a name
pub begins-pointwise : (name text : List ℕ) → pointwise eqb name (take (length name) text) ≡ begins name text
unfolding begins
begins-pointwise [] text = refl
begins-pointwise (x ∷ name) [] = refl
begins-pointwise (x ∷ name) (y ∷ text) = ap (λ (b : Bool). eqb x y && b) (begins-pointwise name text)

-- a text that begins with a name is the name and the rest, and the other way round
pub begins-split : (name text : List ℕ) → begins name text ≡ true → text ≡ name ++ drop (length name) text
unfolding begins
begins-split [] text e = refl
begins-split (x ∷ name) [] e = let z : ◌≡◌ {A = ℕ} 0 1 = cc in absurd (let w : ⊥ = omega arith in w)
begins-split (x ∷ name) (y ∷ text) e =
    let p = both_true (eqb x y) (begins name text) e in
    ap₂ (λ (a : ℕ) (l : List ℕ). a ∷ l) (sym (eqb-true x y p.0)) (begins-split name text p.1)

pub begins-joined : (name rest : List ℕ) → begins name (name ++ rest) ≡ true
unfolding begins
begins-joined [] rest = refl
begins-joined (x ∷ name) rest = simp (eq-eqb x x refl) (begins-joined name rest)

-- the library's test of a text that begins with `0`
pub starts-zero : (text : List ℕ) {r : Bool} → r ≡ pointwise eqb (48 ∷ []) (take 1 text) → r ≡ eqb (get_or text 0 0) 48
starts-zero [] e = e
starts-zero (x ∷ text) e = e ∙ and-true (eqb 48 x) ∙ eqb_comm 48 x
