-- A session whose fields pass every check that a call makes of them: `Sound`; its wanted message, key, marks and meters do (`holds-sound`, `sound-holds`).
use mathlib.Core.Path.{◌≡◌}
use mathlib.Core.Bool.{true}
use Prim.Native.Nat.{◌<◌}
use Rattle.scheme.specs.Scheme.{Scheme}
use Rattle.catalogue.specs.declared.Catalogue.{Catalogue}
use Rattle.catalogue.specs.Catalogue.{Admitted}
use Rattle.session.specs.declared.Session.{Session}
use Rattle.session_parts.specs.Marks.{marks_good}
use Rattle.session_checks.specs.Checks.{meters_fit}
use Rattle.session_checks.proofs.Links.{Holds}
use Rattle.session.specs.Calls.{code_of, key_of}

pub record Sound (scheme_of : Catalogue → Scheme) (s : Session) : Type 0 where
  pub admitted : Admitted s.catalogue
  pub inside : s.wanted < s.catalogue.messages
  pub good : (code_of scheme_of s).key_good (key_of scheme_of s) ≡ true
  pub marks : marks_good s.catalogue.servers s.issued s.taken ≡ true
  pub meters : meters_fit scheme_of s.catalogue s.wanted (key_of scheme_of s) s.issued s.taken s.meters ≡ true

module _ (scheme_of : Catalogue → Scheme) (s : Session) where
  pub holds-sound : Holds scheme_of s.catalogue s.wanted s.key → marks_good s.catalogue.servers s.issued s.taken ≡ true
      → meters_fit scheme_of s.catalogue s.wanted (key_of scheme_of s) s.issued s.taken s.meters ≡ true → Sound scheme_of s
  holds-sound h m n = record { admitted = h.admitted; inside = h.inside; good = h.good; marks = m; meters = n }

  pub sound-holds : Sound scheme_of s → Holds scheme_of s.catalogue s.wanted s.key
  sound-holds sound = record { admitted = sound.admitted; inside = sound.inside; good = sound.good }
