-- What the promises of the codes give the checks of a session: the sizes of an admitted catalogue are small (`sizes-small`), and the places of
-- its key that are used are a valid key where they are good (`key-valid`).
use mathlib.Core.Path.{◌≡◌, ap, ◌∙◌}
use mathlib.Core.Bool.{true}
use mathlib.Core.List.{List}
use Prim.Native.Nat.{ℕ, ◌≤◌, ◌<◌}
use native.Mathlib.Omega.{arith}
use lib.ListN.{length, take}
use lib.Seq.{length-take-le}
use Rattle.parameters.specs.declared.Sizes.{Sizes}
use Rattle.parameters.specs.Measures.{key_places}
use Rattle.parameters.proofs.SmallSizes.{Small}
use Rattle.scheme.specs.Scheme.{Valid}
use Rattle.catalogue.specs.declared.Catalogue.{Catalogue}
use Rattle.catalogue.specs.Catalogue.{Admitted}
use Rattle.catalogue.proofs.Admitted.{admitted-small, admitted-query}
use Rattle.codes.specs.Codes.{scheme_of}
use Rattle.codes.proofs.Promises.{scheme-sizes}
use Rattle.session_checks.specs.Checks.{used_places}

pub sizes-small : (c : Catalogue) (sizes : Sizes) → Admitted c → sizes ≡ (scheme_of c).sizes → Small c.servers sizes
sizes-small c sizes a e = rw (e, scheme-sizes c) (admitted-small c a)

-- a query has at least one byte
pub query-some : (c : Catalogue) → Admitted c → 0 < (scheme_of c).sizes.query
query-some c a = rw (scheme-sizes c) (admitted-query c a)

-- all places of a key, and the sizes at hand
module _ (c : Catalogue) (places : List ℕ) (long : length places ≡ key_places) (sizes : Sizes) (a : Admitted c) (e : sizes ≡ (scheme_of c).sizes) where
  pub key_fits : sizes.key ≤ length places
  key_fits = omega (arith, (sizes-small c sizes a e).key)

  pub key-count : length (take sizes.key places) ≡ sizes.key
  key-count = length-take-le sizes.key places key_fits

  pub key-length : length (take sizes.key places) ≡ (scheme_of c).sizes.key
  key-length = key-count ∙ ap (λ (z : Sizes). z.key) e

  pub key-valid : (scheme_of c).key_good (used_places scheme_of c places) ≡ true → Valid (scheme_of c) (take sizes.key places)
  key-valid good = record { long = key-length; good = rw e good }
