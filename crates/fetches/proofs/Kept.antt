-- A fetch between two of its calls: its session and its answer buffer (`session_of`, `state_of`), what its marks and meters say of the calls made (`Kept`),
-- what honest takes leave in the slots (`Held`), and the state after one call more (`Next`).
use mathlib.Core.Path.{◌≡◌}
use mathlib.Core.Bool.{Bool, true, cond}
use mathlib.Core.List.{List}
use Prim.Native.Nat.{ℕ, ◌*◌, ◌≤◌, ◌<◌}
use lib.ListN.{length}
use Rattle.lists.specs.Distinct.{stands}
use Rattle.lists.specs.Parts.{cut}
use Rattle.parameters.specs.Measures.{most_servers}
use Rattle.scheme.specs.Scheme.{Scheme}
use Rattle.catalogue.specs.declared.Catalogue.{Catalogue}
use Rattle.session_parts.specs.declared.Meters.{Meters}
use Rattle.session_parts.specs.Marks.{marked}
use Rattle.session_parts.specs.Meters.{most_bytes, counted}
use Rattle.session_parts.specs.Places.{padded_key}
use Rattle.session_parts.proofs.Marks.{Marks}
use Rattle.session_checks.specs.Checks.{answer_bytes}
use Rattle.session.specs.declared.Session.{Session}
use Rattle.session.specs.Calls.{slots_of}
use Rattle.fetches.specs.Fetches.{Call, State, make}
use Rattle.fetches.specs.Past.{Past, since}
use Rattle.fetches.specs.Told.{sent_to}
use Rattle.fetches.specs.Right.{HonestTake}

-- a session of a fetch, and a state of one: only the marks, the meters and the answer buffer move
abbrev pub session_of : Catalogue → ℕ → List ℕ → List Bool → List Bool → Meters → Session
session_of c wanted key issued taken meters = record {
  catalogue = c;
  wanted = wanted;
  key = padded_key key;
  issued = issued;
  taken = taken;
  meters = meters;
}

abbrev pub state_of : Catalogue → ℕ → List ℕ → List Bool → List Bool → Meters → List ℕ → State
state_of c wanted key issued taken meters answers = record { session = session_of c wanted key issued taken meters; answers = answers }

-- what holds between the calls of a fetch, after those that say `past`, where the answer buffer has `room` bytes
pub record Kept (scheme_of : Catalogue → Scheme) (c : Catalogue) (wanted : ℕ) (key : List ℕ) (room : ℕ) (past : Past) (issued taken : List Bool)
    (meters : Meters) (answers : List ℕ) : Type 0 where
  pub marks : Marks c.servers issued taken
  pub sent-long : length meters.sent ≡ most_servers
  pub got-long : length meters.got ≡ most_servers
  pub room-kept : length answers ≡ room
  pub agree-issued : (i : ℕ) → marked issued i ≡ stands i past.issued
  pub agree : (i : ℕ) → marked taken i ≡ stands i past.taken
  pub agree-sent : (i : ℕ) → counted meters.sent i ≡ sent_to scheme_of c past i
  pub agree-got : (i : ℕ) → counted meters.got i ≡ cond (stands i past.taken) (answer_bytes scheme_of c wanted key i) 0
  pub sent-fits : (i : ℕ) → counted meters.sent i ≤ most_bytes
  pub roomy : (i : ℕ) → stands i past.taken ≡ true → slots_of scheme_of c ≤ room

module _ (scheme_of : Catalogue → Scheme) (c : Catalogue) (store : List ℕ) (wanted : ℕ) (key : List ℕ) where
  -- slot i holds the honest answer
  pub record HeldAt (answers : List ℕ) (i : ℕ) : Type 0 where
    pub store_long : length store ≡ (scheme_of c).sizes.store
    pub holds : cut (i * (scheme_of c).sizes.slot) ((scheme_of c).answer_length ((scheme_of c).query wanted i key)) answers
        ≡ (scheme_of c).answer store ((scheme_of c).query wanted i key)

  abbrev pub Held : Past → List ℕ → Type 0
  Held past answers = (i : ℕ) → i < c.servers → stands i past.taken ≡ true → HeldAt answers i

-- the state after a call
pub record Next (scheme_of : Catalogue → Scheme) (c : Catalogue) (wanted : ℕ) (key : List ℕ) (room : ℕ) (past : Past) (at : State) (call : Call) : Type 0 where
  pub issued : List Bool
  pub taken : List Bool
  pub meters : Meters
  pub answers : List ℕ
  pub is : (make scheme_of at call).after ≡ state_of c wanted key issued taken meters answers
  pub kept : Kept scheme_of c wanted key room (since past (make scheme_of at call)) issued taken meters answers
  pub held : (store : List ℕ) → Held scheme_of c store wanted key past at.answers → HonestTake scheme_of c store wanted key past (make scheme_of at call)
      → Held scheme_of c store wanted key (since past (make scheme_of at call)) answers
