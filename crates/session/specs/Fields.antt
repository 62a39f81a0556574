-- Sessions as values (document 01, 'Session'): the one that begin hands back, done or refused, and the ones with a mark more.
use Rattle.std.specs.Prelude.{ℕ, true, List, set, replicate}
use Rattle.parameters.specs.Measures.{key_places}
use Rattle.session_parts.specs.Marks.{no_marks}
use Rattle.session_parts.specs.Meters.{no_meters, count_issued, count_taken}
use Rattle.session_parts.specs.Places.{padded_key}
use Rattle.catalogue.specs.declared.Catalogue.{Catalogue}
use Rattle.catalogue.specs.Catalogue.{zero_catalogue}
use Rattle.session.specs.declared.Session.{Session}

-- a session at the start of a fetch: new_session catalogue wanted key
abbrev pub new_session : Catalogue → ℕ → List ℕ → Session
new_session c wanted key = record { catalogue = c; wanted = wanted; key = padded_key key; issued = no_marks; taken = no_marks; meters = no_meters }

-- zeros, the code short, the sum exclusive or
unfoldable pub zero_session : Session
zero_session = record { catalogue = zero_catalogue; wanted = 0; key = replicate key_places 0; issued = no_marks; taken = no_marks; meters = no_meters }

-- a query of so many bytes was issued to the server
abbrev pub mark_issued : Session → ℕ → ℕ → Session
mark_issued s server bytes = record {
  catalogue = s.catalogue;
  wanted = s.wanted;
  key = s.key;
  issued = set s.issued server true;
  taken = s.taken;
  meters = count_issued s.meters server bytes;
}

-- the server's answer, of so many bytes, was taken
abbrev pub mark_taken : Session → ℕ → ℕ → Session
mark_taken s server bytes = record {
  catalogue = s.catalogue;
  wanted = s.wanted;
  key = s.key;
  issued = s.issued;
  taken = set s.taken server true;
  meters = count_taken s.meters server bytes;
}
