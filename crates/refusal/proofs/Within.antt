-- A call gives only numbers of its faults: its verdict is the foremost of them (`faults-within`), and an outcome goes by a verdict (`value-within`).
use mathlib.Core.Path.{◌≡◌, sym, ap, ◌∙◌}
use mathlib.Core.Bool.{Bool, true}
use mathlib.Core.List.{List}
use Prim.Native.Nat.{ℕ}
use native.Mathlib.Omega.{arith}
use Rattle.lists.specs.Distinct.{stands}
use Rattle.std.specs.Prelude.{Ok, Err}
use Rattle.refusal.specs.Verdicts.{Verdict, Outcome, accepted}
use Rattle.refusal.specs.declared.Refusal.{Refusal}
use Rattle.refusal.specs.Numbers.{number_of}
use Rattle.refusal.specs.Foremost.{Fault, foremost}
use Rattle.refusal.specs.Within.{OneOf, Within, ValueWithin}
use Rattle.refusal.proofs.Chain.{same-refusal}
use Rattle.refusal.proofs.Foremost.{of_faults, of_verdict, of-foremost}

not-value : {A : Type 0} {size : ℕ} {refusal : Refusal} → ◌≡◌ {A = Outcome} (Ok size) (Err refusal) → A
not-value {A} {size} {refusal} e = let z : ◌≡◌ {A = ℕ} 0 1 = cc in absurd (let w : ⊥ = omega arith in w)

module _ (numbers : List ℕ) where
  abbrev named : Refusal → Bool
  named refusal = stands (number_of refusal) numbers

  -- every fault has one of the numbers
  abbrev pub faults_named : List Fault → Bool
  faults_named = of_faults named

  pub faults-within : (faults : List Fault) (v : Verdict) → faults_named faults ≡ true → v ≡ foremost faults → Within numbers v
  unfolding OneOf
  faults-within faults v e s refusal r = ap (of_verdict named) (sym r ∙ s) ∙ of-foremost named faults e

  pub refused-within : (other : Refusal) → Within numbers (Err other) → ValueWithin numbers (Err other)
  refused-within other w refusal e = w refusal (ap Err (same-refusal e))

  -- by: the outcome by a verdict
  pub value-within : (by : Verdict → Outcome) (size : ℕ) → by accepted ≡ Ok size → ((refusal : Refusal) → by (Err refusal) ≡ Err refusal)
      → (v : Verdict) → Within numbers v → ValueWithin numbers (by v)
  value-within by size given refused (Ok _) w refusal e = not-value (sym given ∙ e)
  value-within by size given refused (Err other) w refusal e = refused-within other w refusal (sym (refused other) ∙ e)
