-- The places of a session's key that are not used (document 01, 'Numbers a call can give'): whatever they hold, a call says and writes the same, and
-- hands them back as they were. `unused-unread` shows it, for every session.
use Rattle.std.specs.Prelude.{◌≡◌, List, ℕ, take}
use Rattle.scheme.specs.Scheme.{Scheme}
use Rattle.calendar.specs.declared.Day.{Day}
use Rattle.catalogue.specs.declared.Catalogue.{Catalogue}
use Rattle.session.specs.declared.Session.{Session}
use Rattle.session.specs.Calls.{Out, code_of, key_of, issue, take_answer, recover}

-- the session with these places in its key's stead
abbrev pub with_places : List ℕ → Session → Session
with_places places s = record { catalogue = s.catalogue; wanted = s.wanted; key = places; issued = s.issued; taken = s.taken; meters = s.meters }

-- the same in what a call hands back
abbrev pub handed_with : List ℕ → Out → Out
handed_with places o = record { handed = record { verdict = o.handed.verdict; session = with_places places o.handed.session }; buffer = o.buffer }

pub record Unread (scheme_of : Catalogue → Scheme) (s : Session) (places : List ℕ) : Type 0 where
  pub issues : (day : Day) (server : ℕ) (buffer : List ℕ)
      → issue scheme_of (with_places places s) day server buffer ≡ handed_with places (issue scheme_of s day server buffer)
  pub takes : (server : ℕ) (answer buffer : List ℕ)
      → take_answer scheme_of (with_places places s) server answer buffer ≡ handed_with places (take_answer scheme_of s server answer buffer)
  pub recovers : (answers buffer : List ℕ) → recover scheme_of (with_places places s) answers buffer ≡ handed_with places (recover scheme_of s answers buffer)

abbrev pub UnusedUnread : (Catalogue → Scheme) → Type 0
UnusedUnread scheme_of =
    (s : Session) (places : List ℕ) → take (code_of scheme_of s).sizes.key places ≡ key_of scheme_of s → Unread scheme_of s places
