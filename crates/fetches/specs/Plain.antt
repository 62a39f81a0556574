-- The plain fetch: a query issued to each server, the answer of each taken, the message recovered. What is promised of it, for every admitted catalogue,
-- store of the catalogue's length, wanted message and valid key, and any days in the catalogue's season, shuts out ends that refuse everything, or ask or
-- answer nothing (demand 2): `PlainFetches`.
use Rattle.std.specs.Prelude.{◌≡◌, List, [], ◌∷◌, ◌++◌, map, ℕ, ◌≤◌, ◌<◌, length, Ok}
use Rattle.lists.specs.Parts.{put}
use Rattle.lists.specs.Below.{Below}
use Rattle.lists.specs.Ranges.{range}
use Rattle.scheme.specs.Scheme.{Scheme, Valid}
use Rattle.calendar.specs.declared.Day.{Day}
use Rattle.refusal.specs.Verdicts.{accepted}
use Rattle.catalogue.specs.declared.Catalogue.{Catalogue}
use Rattle.catalogue.specs.Catalogue.{Admitted}
use Rattle.catalogue.specs.Days.{Served}
use Rattle.codes.specs.Messages.{message_length, message_in}
use Rattle.session.specs.Calls.{slots_of}
use Rattle.fetches.specs.Fetches.{issuing, taking, recovering, Fetch, Made, history}
use Rattle.fetches.specs.Shown.{asked, shown_to}

-- every call is accepted, and P holds of the last one
pub data Ends (P : Made → Type 0) : List Made → Type 0 where
  last : {made : Made} → made.verdict ≡ accepted → P made → Ends P (made ∷ [])
  later : {made : Made} {rest : List Made} → made.verdict ≡ accepted → Ends P rest → Ends P (made ∷ rest)

module _ (scheme_of : Catalogue → Scheme) (c : Catalogue) (store : List ℕ) (wanted : ℕ) (key : List ℕ) where
  -- the query that a server is asked, and its honest answer
  abbrev pub query_to : ℕ → List ℕ
  query_to server = (scheme_of c).query wanted server key

  abbrev pub answer_of : ℕ → List ℕ
  answer_of server = (scheme_of c).answer store (query_to server)

  -- each server's issue has days of its own. The buffers: the fetch's for the answers, and for each issue a query's and a server's, and the message's
  abbrev pub plain_fetch : (ℕ → Day) → (ℕ → Day) → List ℕ → List ℕ → List ℕ → List ℕ → Fetch
  plain_fetch day answer_day answers query answer message = record {
    wanted = wanted;
    key = key;
    answers = answers;
    calls = map (λ (server : ℕ). issuing server (day server) query (answer_day server) answer) (range 0 c.servers)
        ++ (map (λ (server : ℕ). taking server (answer_of server)) (range 0 c.servers) ++ (recovering message ∷ []));
  }

  -- the wanted message has all its bytes; each server is asked the query that the code calls for, once, and writes the answer that is taken from it; no
  -- call is refused; and the message's buffer ends with the wanted message at its start and the rest as it was
  pub record PlainRight (day answer_day : ℕ → Day) (answers query answer message : List ℕ) : Type 0 where
    pub whole : length (message_in scheme_of c store wanted) ≡ message_length scheme_of c wanted
    pub served : (n : ℕ) → n < c.servers
        → shown_to scheme_of c store n (history scheme_of c (plain_fetch day answer_day answers query answer message))
        ≡ asked (query_to n) (Ok (length (answer_of n))) (answer_of n) ∷ []
    pub ends : Ends (λ (made : Made). made.left ≡ put 0 (message_in scheme_of c store wanted) message)
        (history scheme_of c (plain_fetch day answer_day answers query answer message))

abbrev pub PlainFetches : (Catalogue → Scheme) → Type 0
PlainFetches scheme_of =
    (c : Catalogue) → Admitted c → (store : List ℕ) → Below 256 store → length store ≡ (scheme_of c).sizes.store
    → (wanted : ℕ) → wanted < c.messages → (key : List ℕ) → Valid (scheme_of c) key
    → (day answer_day : ℕ → Day) → ((server : ℕ) → server < c.servers → Served c (day server) × Served c (answer_day server))
    → (answers query answer message : List ℕ) → slots_of scheme_of c ≤ length answers → (scheme_of c).sizes.query ≤ length query
    → (scheme_of c).sizes.slot ≤ length answer → message_length scheme_of c wanted ≤ length message
    → PlainRight scheme_of c store wanted key day answer_day answers query answer message
