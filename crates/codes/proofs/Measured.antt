-- The sizes that the catalogue crate measures are the scheme's, and it measures exactly the admitted catalogues: `measured-admitted`, `measured`,
-- `unmeasured`.
use mathlib.Core.Path.{◌≡◌, refl, sym, ap, ◌∙◌}
use Prim.Native.Nat.{ℕ}
use native.Mathlib.Omega.{arith}
use Rattle.std.specs.Prelude.{Ok, Err}
use Rattle.refusal.specs.Verdicts.{Verdict}
use Rattle.refusal.proofs.Chain.{same-refusal}
use Rattle.refusal.specs.declared.Refusal.{Refusal}
use Rattle.parameters.specs.declared.Sizes.{Sizes}
use Rattle.catalogue.specs.declared.Catalogue.{Catalogue}
use Rattle.catalogue.specs.Catalogue.{Measured, catalogue_verdict, Admitted, sizes_of, measured_of}
use Rattle.codes.specs.Codes.{scheme_of}
use Rattle.codes.proofs.Promises.{scheme-sizes}

measured-sizes : (c : Catalogue) → Admitted c → measured_of c ≡ Ok (sizes_of c)
unfolding measured_of
measured-sizes c a = rw a

measured-refusal : (c : Catalogue) (refusal : Refusal) → catalogue_verdict c ≡ Err refusal → measured_of c ≡ Err refusal
unfolding measured_of
measured-refusal c refusal e = rw e

not-measured : {A : Type 0} (sizes : Sizes) (refusal : Refusal) → ◌≡◌ {A = Measured} (Ok sizes) (Err refusal) → A
not-measured sizes refusal e = let z : ◌≡◌ {A = ℕ} 0 1 = cc in absurd (let w : ⊥ = omega arith in w)

same-sizes : (a b : Sizes) → ◌≡◌ {A = Measured} (Ok a) (Ok b) → a ≡ b
same-sizes a b e = cc

-- admitted: it is measured
pub measured-admitted : (c : Catalogue) → Admitted c → measured_of c ≡ Ok (scheme_of c).sizes
measured-admitted c a = measured-sizes c a ∙ ap Ok (sym (scheme-sizes c))

-- measured: the catalogue is admitted, and the sizes are its scheme's
pub measured : (c : Catalogue) (m : Measured) (sizes : Sizes) → m ≡ measured_of c → m ≡ Ok sizes → (Admitted c) × (sizes ≡ (scheme_of c).sizes)
measured c m sizes e f = go (catalogue_verdict c) refl
  where
    go : (v : Verdict) → catalogue_verdict c ≡ v → (Admitted c) × (sizes ≡ (scheme_of c).sizes)
    go (Ok _) v = (v, same-sizes sizes (sizes_of c) (sym f ∙ e ∙ measured-sizes c v) ∙ sym (scheme-sizes c))
    go (Err refusal) v = not-measured sizes refusal (sym f ∙ e ∙ measured-refusal c refusal v)

-- not measured: the refusal is the catalogue's
pub unmeasured : (c : Catalogue) (m : Measured) (refusal : Refusal) → m ≡ measured_of c → m ≡ Err refusal → catalogue_verdict c ≡ Err refusal
unmeasured c m refusal e f = go (catalogue_verdict c) refl
  where
    go : (v : Verdict) → catalogue_verdict c ≡ v → catalogue_verdict c ≡ Err refusal
    go (Ok _) v = not-measured (sizes_of c) refusal (sym (measured-sizes c v) ∙ sym e ∙ f)
    go (Err other) v = rw (same-refusal (sym f ∙ e ∙ measured-refusal c other v)) v
