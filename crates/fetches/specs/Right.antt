-- What holds in one fetch (document 01, 'Lists of fetches'): refused calls change nothing, each call says what its history calls for, and after honest
-- takes from all servers recover leaves the wanted message (document 02, item 6: as far as its length goes). `FetchRight` is all of it.
use Rattle.std.specs.Prelude.{◌≡◌, true, false, List, ℕ, ◌≤◌, ◌<◌, ltb, length, take, Err}
use Rattle.lists.specs.Distinct.{stands}
use Rattle.lists.specs.Parts.{put}
use Rattle.refusal.specs.Verdicts.{Verdict, accepted}
use Rattle.refusal.specs.declared.Refusal.{Refusal}
use Rattle.refusal.specs.Chain.{refused, refuse_if}
use Rattle.scheme.specs.Scheme.{Scheme}
use Rattle.calendar.specs.declared.Day.{Day}
use Rattle.catalogue.specs.declared.Catalogue.{Catalogue}
use Rattle.codes.specs.Messages.{message_length, message_in}
use Rattle.server.specs.Answering.{Answered, written_by, answering}
use Rattle.session.specs.Calls.{slots_of, begin}
use Rattle.fetches.specs.Fetches.{issuing, taking, recovering, Fetch, Made, lent, history}
use Rattle.fetches.specs.Past.{Past, nothing, Throughout}
use Rattle.fetches.specs.Told.{Told}
use Rattle.fetches.specs.Metered.{Metered}

-- a refused call leaves the session and every buffer as they were
abbrev pub Unchanged : Past → Made → Type 0
Unchanged past made = (refusal : Refusal) → made.verdict ≡ Err refusal → (made.after ≡ made.before) × (made.left ≡ lent made.call)

abbrev pub OnlyWritten : Answered → List ℕ → Type 0
OnlyWritten a before = a.buffer ≡ put 0 (written_by a.outcome a.buffer) before

module _ (scheme_of : Catalogue → Scheme) (c : Catalogue) where
  abbrev pub AllTaken : Past → Type 0
  AllTaken past = (server : ℕ) → server < c.servers → stands server past.taken ≡ true

  -- A recover into `message`, with an answer buffer of `room` bytes: once all are taken it is done, unless the message's buffer is too short (9) for the
  -- bytes of the wanted message; with an answer missing it is refused, 9 if a buffer is too short, else 12
  pub record RecoverSays (wanted room : ℕ) (past : Past) (message : List ℕ) (verdict : Verdict) : Type 0 where
    pub all-taken : AllTaken past → verdict ≡ refuse_if (ltb (length message) (message_length scheme_of c wanted)) 9 accepted
    pub missing : (server : ℕ) → server < c.servers → stands server past.taken ≡ false
        → verdict
        ≡ refuse_if (ltb room (slots_of scheme_of c)) 9 (refuse_if (ltb (length message) (message_length scheme_of c wanted)) 9 (refused 12))

  abbrev pub RecoverVerdict : ℕ → ℕ → Past → Made → Type 0
  RecoverVerdict wanted room past made = (message : List ℕ) → made.call ≡ recovering message → RecoverSays wanted room past message made.verdict

  module _ (store : List ℕ) where
    -- The honest answer of a server to what the wanted message and the key call for there. From a store not of the catalogue's length none is honest
    pub record Honest (wanted : ℕ) (key : List ℕ) (server : ℕ) (answer : List ℕ) : Type 0 where
      pub store_long : length store ≡ (scheme_of c).sizes.store
      pub as-coded : answer ≡ (scheme_of c).answer store ((scheme_of c).query wanted server key)

    -- a take that was not refused handed over the honest answer of the server that it names
    abbrev pub HonestTake : ℕ → List ℕ → Past → Made → Type 0
    HonestTake wanted key past made =
        (server : ℕ) (answer : List ℕ) → made.call ≡ taking server answer → made.verdict ≡ accepted → Honest wanted key server answer

    -- a recover after all are taken leaves the wanted message at the start of its buffer, if that is long enough, and the rest as it was
    abbrev pub MessageLeft : ℕ → Past → Made → Type 0
    MessageLeft wanted past made =
        (message : List ℕ) → made.call ≡ recovering message → AllTaken past → message_length scheme_of c wanted ≤ length message
        → made.left ≡ put 0 (message_in scheme_of c store wanted) message

    -- of the buffer that a query is answered into, nothing is left changed but what the server is shown to write
    abbrev pub AnswerLeft : Past → Made → Type 0
    AnswerLeft past made =
        (server : ℕ) (day answer_day : Day) (query answer : List ℕ) → made.call ≡ issuing server day query answer_day answer → made.verdict ≡ accepted
        → OnlyWritten (answering scheme_of c answer_day server store (take (scheme_of c).sizes.query made.left) answer) answer

    -- What holds in each fetch
    pub record FetchRight (f : Fetch) : Type 0 where
      pub begun : (begin scheme_of c f.wanted f.key).verdict ≡ accepted
      pub refusals : Throughout Unchanged nothing (history scheme_of c f)
      pub told : Throughout (Told scheme_of c f.wanted f.key (length f.answers)) nothing (history scheme_of c f)
      pub answers-left : Throughout AnswerLeft nothing (history scheme_of c f)
      pub metered : (server : ℕ) → Metered scheme_of c f server
      pub verdicts : Throughout (RecoverVerdict f.wanted (length f.answers)) nothing (history scheme_of c f)
      pub messages : Throughout (HonestTake f.wanted f.key) nothing (history scheme_of c f)
          → Throughout (MessageLeft f.wanted) nothing (history scheme_of c f)
