-- What the calls of a session check of its fields (document 01, 'Numbers a call can give'; the day and the meters: document 02, items 1 and 5), as
-- faults that several calls share, over the code of each catalogue. `places`: those of the session's key, of which some are used.
use Rattle.std.specs.Prelude.{Bool, not, List, [], ◌∷◌, ◌++◌, ℕ, leb, take}
use Rattle.refusal.specs.Foremost.{Fault, fault}
use Rattle.scheme.specs.Scheme.{Scheme}
use Rattle.calendar.specs.declared.Day.{Day}
use Rattle.catalogue.specs.declared.Catalogue.{Catalogue}
use Rattle.catalogue.specs.Catalogue.{catalogue_faults}
use Rattle.catalogue.specs.Days.{day_faults}
use Rattle.session_parts.specs.declared.Meters.{Meters}
use Rattle.session_parts.specs.Marks.{marked, marks_good, all_taken}
use Rattle.session_parts.specs.Meters.{meter_full, meters_good}

-- marks that no history of calls gives
abbrev pub marks_fault : ℕ → List Bool → List Bool → Fault
marks_fault servers issued taken = fault 11 (not (marks_good servers issued taken))

-- the server's meter would pass what it can say: `query` bytes more
abbrev pub full_fault : Meters → ℕ → ℕ → Fault
full_fault m server query = fault 16 (meter_full m server query)

-- the server's answer is not due: no query was issued to it, or its answer was taken
abbrev pub due_faults : List Bool → List Bool → ℕ → List Fault
due_faults issued taken server = fault 11 (not (marked issued server)) ∷ fault 11 (marked taken server) ∷ []

-- an answer is missing
abbrev pub missing_fault : ℕ → List Bool → Fault
missing_fault servers taken = fault 12 (not (all_taken servers taken))

module _ (scheme_of : Catalogue → Scheme) where
  -- the places of the key that are used
  abbrev pub used_places : Catalogue → List ℕ → List ℕ
  used_places c places = take (scheme_of c).sizes.key places

  -- the bytes of the answer that wanted message and key call for at a server
  abbrev pub answer_bytes : Catalogue → ℕ → List ℕ → ℕ → ℕ
  answer_bytes c wanted key server = (scheme_of c).answer_length ((scheme_of c).query wanted server key)

  -- some history of calls gives the meters, together with the marks and the other fields
  abbrev pub meters_fit : Catalogue → ℕ → List ℕ → List Bool → List Bool → Meters → Bool
  meters_fit c wanted key issued taken m = meters_good (scheme_of c).sizes.query (answer_bytes c wanted key) issued taken m

  -- marks that no history of calls gives, and meters that none gives together with the other fields
  abbrev pub history_faults : Catalogue → ℕ → List ℕ → List Bool → List Bool → Meters → List Fault
  history_faults c wanted key issued taken m =
      marks_fault c.servers issued taken ∷ fault 11 (not (meters_fit c wanted key issued taken m)) ∷ []

  -- wanted and key of a session are checked again
  abbrev pub field_faults : Catalogue → ℕ → List ℕ → List Fault
  field_faults c wanted places = fault 4 (leb c.messages wanted) ∷ fault 6 (not ((scheme_of c).key_good (used_places c places))) ∷ []

  abbrev pub session_faults : Catalogue → ℕ → List ℕ → List Fault
  session_faults c wanted places = catalogue_faults c ++ field_faults c wanted places

  -- and the server that a call names
  abbrev pub named_faults : Catalogue → ℕ → List ℕ → ℕ → List Fault
  named_faults c wanted places server = fault 3 (leb c.servers server) ∷ field_faults c wanted places

  abbrev pub server_faults : Catalogue → ℕ → List ℕ → ℕ → List Fault
  server_faults c wanted places server = catalogue_faults c ++ named_faults c wanted places server

  -- of a call that names a server on a day
  abbrev pub served_faults : Catalogue → Day → ℕ → List ℕ → ℕ → List Fault
  served_faults c day wanted places server = catalogue_faults c ++ (day_faults c day ++ named_faults c wanted places server)
