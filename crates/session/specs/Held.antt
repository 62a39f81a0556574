-- What a session holds of its fetch, as the checks of its marks and meters take it: the key is the part of its places that is used.
use Rattle.std.specs.Prelude.{◌≡◌, take}
use Rattle.parameters.specs.declared.Sizes.{Sizes}
use Rattle.session_checks.specs.declared.held.Held.{Held}
use Rattle.session.specs.declared.Session.{Session}

pub record IsHeld (s : Session) (sizes : Sizes) (h : Held) : Type 0 where
  pub catalogue : h.catalogue ≡ s.catalogue
  pub query : h.query ≡ sizes.query
  pub wanted : h.wanted ≡ s.wanted
  pub key : h.key.now ≡ take sizes.key s.key
  pub issued : h.issued.now ≡ s.issued
  pub taken : h.taken.now ≡ s.taken
  pub meters : h.meters ≡ s.meters
