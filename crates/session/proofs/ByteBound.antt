-- Laws of the bound on the bytes that a fetch receives: N slots of an admitted catalogue (`bound-done`), refused as the catalogue is
-- (`bound-refused`).
use mathlib.Core.Path.{◌≡◌}
use Rattle.std.specs.Prelude.{Ok, Err}
use Rattle.refusal.specs.Verdicts.{Verdict, accepted}
use Rattle.refusal.specs.declared.Refusal.{Refusal}
use Rattle.scheme.specs.Scheme.{Scheme}
use Rattle.catalogue.specs.declared.Catalogue.{Catalogue}
use Rattle.catalogue.specs.Catalogue.{catalogue_verdict}
use Rattle.session.specs.Calls.{slots_of, bound}

module _ (scheme_of : Catalogue → Scheme) (c : Catalogue) where
  pub bound-done : (v : Verdict) → v ≡ catalogue_verdict c → v ≡ accepted → bound scheme_of c ≡ Ok (slots_of scheme_of c)
  unfolding bound
  bound-done v e p = rw (← e, p)

  pub bound-refused : (v : Verdict) (refusal : Refusal) → v ≡ catalogue_verdict c → v ≡ Err refusal → bound scheme_of c ≡ Err refusal
  unfolding bound
  bound-refused v refusal e p = rw (← e, p)
