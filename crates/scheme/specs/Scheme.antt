-- What a retrieval code is, at given parameters. A server, a message, a digit and a byte are numbers; a buffer is the list of its bytes.
use Rattle.std.specs.Prelude.{◌≡◌, Bool, true, List, map, ℕ, ◌*◌, length}
use Rattle.lists.specs.Parts.{cut}
use Rattle.lists.specs.Ranges.{range}
use Rattle.parameters.specs.declared.Sizes.{Sizes}

pub record Scheme : Type 0 where
  pub sizes : Sizes
  -- key_good key: a key of the right length has no entry that it may not have (no refusal 6)
  pub key_good : List ℕ → Bool
  -- query wanted server key
  pub query : ℕ → ℕ → List ℕ → List ℕ
  -- admits server query (no refusal 7), of any bytes and length
  pub admits : ℕ → List ℕ → Bool
  -- answer_length query: the bytes that the query calls for
  pub answer_length : List ℕ → ℕ
  -- answer store query
  pub answer : List ℕ → List ℕ → List ℕ
  -- recover wanted key answers: the message, from the answers of server 0, 1, ..
  pub recover : ℕ → List ℕ → List (List ℕ) → List ℕ

-- A valid key (01, 'Lists of fetches'): neither 5 nor 6 applies to it
pub record Valid (scheme : Scheme) (key : List ℕ) : Type 0 where
  pub long : length key ≡ scheme.sizes.key
  pub good : scheme.key_good key ≡ true

-- message `wanted` of the store (01: pack k)
abbrev pub message_of : Scheme → List ℕ → ℕ → List ℕ
message_of scheme store wanted = cut (wanted * scheme.sizes.message) scheme.sizes.message store

-- the answer of each server to the query that the wanted message and the key call for there
unfoldable pub honest_answers : Scheme → ℕ → List ℕ → ℕ → List ℕ → List (List ℕ)
honest_answers scheme servers store wanted key = map (λ server. scheme.answer store (scheme.query wanted server key)) (range 0 servers)

-- the answers in the slots of an answer buffer; past its answer, and of an empty answer, nothing of a slot is read
unfoldable pub answers_in : Scheme → ℕ → ℕ → List ℕ → List ℕ → List (List ℕ)
answers_in scheme servers wanted key buffer =
    map (λ server. cut (server * scheme.sizes.slot) (scheme.answer_length (scheme.query wanted server key)) buffer) (range 0 servers)

-- the message that they give
abbrev pub recover_in : Scheme → ℕ → ℕ → List ℕ → List ℕ → List ℕ
recover_in scheme servers wanted key buffer = scheme.recover wanted key (answers_in scheme servers wanted key buffer)
