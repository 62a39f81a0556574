-- What is asked of the fields of a session before its marks and meters are looked at: the catalogue is admitted, the wanted message is there, the key is
-- valid, and a query has the bytes that it says.
use Rattle.std.specs.Prelude.{◌≡◌, ◌<◌, List}
use Rattle.refusal.specs.Foremost.{Fault}
use Rattle.scheme.specs.Scheme.{Valid}
use Rattle.catalogue.specs.Catalogue.{Admitted}
use Rattle.codes.specs.Codes.{scheme_of}
use Rattle.session_checks.specs.declared.held.Held.{Held}
use Rattle.session_checks.specs.Checks.{history_faults}

pub record Checked (h : Held) : Type 0 where
  pub admitted : Admitted h.catalogue
  pub query_value : h.query ≡ (scheme_of h.catalogue).sizes.query
  pub wanted_lt_messages : h.wanted < h.catalogue.messages
  pub valid : Valid (scheme_of h.catalogue) h.key.now

-- marks that no history of calls gives, and meters that none gives together with the other fields
abbrev pub history_of : Held → List Fault
history_of h = history_faults scheme_of h.catalogue h.wanted h.key.now h.issued.now h.taken.now h.meters
