-- The marks and meters that a history gives (document 01, number 11; document 02, item 5): those of a session to which some calls of a fetch lead. They
-- are the good ones, so what number 11 refuses is exactly what no history gives: `MarksAndMetersByHistory`.
use Rattle.std.specs.Prelude.{◌≡◌, Bool, true, List, ℕ, ◌≤◌, ◌<◌, length}
use Rattle.parameters.specs.Measures.{most_servers}
use Rattle.scheme.specs.Scheme.{Scheme, Valid}
use Rattle.catalogue.specs.declared.Catalogue.{Catalogue}
use Rattle.catalogue.specs.Catalogue.{Admitted}
use Rattle.session_parts.specs.declared.Meters.{Meters}
use Rattle.session_parts.specs.Marks.{marks_good}
use Rattle.session_parts.specs.Meters.{most_bytes, counted}
use Rattle.session_parts.specs.Places.{padded_key}
use Rattle.session_checks.specs.Checks.{meters_fit}
use Rattle.fetches.specs.Fetches.{Fetch, start, ended}

module _ (scheme_of : Catalogue → Scheme) where
  -- a fetch after whose calls the session has these marks and meters
  pub record Reached (c : Catalogue) (wanted : ℕ) (key : List ℕ) (issued taken : List Bool) (meters : Meters) : Type 0 where
    pub fetch : Fetch
    pub its-message : fetch.wanted ≡ wanted
    pub its-key : fetch.key ≡ key
    pub its-session : (ended scheme_of (start scheme_of c fetch) fetch.calls).session
        ≡ record { catalogue = c; wanted = wanted; key = padded_key key; issued = issued; taken = taken; meters = meters }

-- what the fields of a session can hold: as many marks and meters as there are places, and no meter past its most
pub record Holds (issued taken : List Bool) (meters : Meters) : Type 0 where
  pub issued-long : length issued ≡ most_servers
  pub taken-long : length taken ≡ most_servers
  pub sent-long : length meters.sent ≡ most_servers
  pub got-long : length meters.got ≡ most_servers
  pub sent-fits : (place : ℕ) → counted meters.sent place ≤ most_bytes

-- marks and meters that pass the two tests of number 11
pub record HistoryGood (scheme_of : Catalogue → Scheme) (c : Catalogue) (wanted : ℕ) (key : List ℕ) (issued taken : List Bool) (meters : Meters)
    : Type 0 where
  pub marks : marks_good c.servers issued taken ≡ true
  pub metered : meters_fit scheme_of c wanted key issued taken meters ≡ true

-- some history gives these marks and meters exactly if they are good
pub record GoodExactly (scheme_of : Catalogue → Scheme) (c : Catalogue) (wanted : ℕ) (key : List ℕ) (issued taken : List Bool) (meters : Meters)
    : Type 0 where
  pub reached-if-good : HistoryGood scheme_of c wanted key issued taken meters → Reached scheme_of c wanted key issued taken meters
  pub good-if-reached : Reached scheme_of c wanted key issued taken meters → HistoryGood scheme_of c wanted key issued taken meters

-- for every admitted catalogue, message in it and valid key, and any marks and meters of the session's places, those past the servers included
abbrev pub MarksAndMetersByHistory : (Catalogue → Scheme) → Type 0
MarksAndMetersByHistory scheme_of =
    (c : Catalogue) → Admitted c → (wanted : ℕ) → wanted < c.messages → (key : List ℕ) → Valid (scheme_of c) key → (issued taken : List Bool)
    (meters : Meters) → Holds issued taken meters → GoodExactly scheme_of c wanted key issued taken meters
