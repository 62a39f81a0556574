-- What a retrieval code promises, at given numbers of servers and messages (`Laws`). The session and the claim on lists of fetches know
-- a code by these laws alone.
use Rattle.std.specs.Prelude.{◌≡◌, true, List, ℕ, ◌*◌, ◌≤◌, ◌<◌, length}
use Rattle.lists.specs.Below.{Below}
use Rattle.parameters.specs.Measures.{key_places, most_servers}
use Rattle.scheme.specs.Scheme.{Scheme, Valid, message_of, honest_answers}

pub record Laws (servers messages : ℕ) (scheme : Scheme) : Type 0 where
  -- sizes
  pub servers-some : 0 < servers
  pub servers-fit : servers ≤ most_servers
  pub key_fits : scheme.sizes.key ≤ key_places
  pub store-whole : scheme.sizes.store ≡ messages * scheme.sizes.message
  -- there is a valid key: what is promised of every key is not empty
  pub some_key : List ℕ
  pub some-key-valid : Valid scheme some_key
  -- queries
  pub query-length : (wanted server : ℕ) (key : List ℕ) → wanted < messages → server < servers → Valid scheme key
      → length (scheme.query wanted server key) ≡ scheme.sizes.query
  pub query-admitted : (wanted server : ℕ) (key : List ℕ) → wanted < messages → server < servers → Valid scheme key
      → scheme.admits server (scheme.query wanted server key) ≡ true
  -- answers
  pub answer-length : (server : ℕ) (store query : List ℕ) → length store ≡ scheme.sizes.store → scheme.admits server query ≡ true
      → length (scheme.answer store query) ≡ scheme.answer_length query
  pub answer-fits : (server : ℕ) (query : List ℕ) → scheme.admits server query ≡ true → scheme.answer_length query ≤ scheme.sizes.slot
  -- the honest answers give the wanted message
  pub recovers : (store : List ℕ) (wanted : ℕ) (key : List ℕ) → Below 256 store → length store ≡ scheme.sizes.store → wanted < messages
      → Valid scheme key → scheme.recover wanted key (honest_answers scheme servers store wanted key) ≡ message_of scheme store wanted
  -- exchange server wanted other key: the key that shows the server, for `other`, what `key` shows it for `wanted`
  pub exchange : ℕ → ℕ → ℕ → List ℕ → List ℕ
  pub exchange-valid : (server wanted other : ℕ) (key : List ℕ) → server < servers → wanted < messages → other < messages → Valid scheme key
      → Valid scheme (exchange server wanted other key)
  pub exchange-back : (server wanted other : ℕ) (key : List ℕ) → server < servers → wanted < messages → other < messages → Valid scheme key
      → exchange server other wanted (exchange server wanted other key) ≡ key
  pub exchange-shown : (server wanted other : ℕ) (key : List ℕ) → server < servers → wanted < messages → other < messages → Valid scheme key
      → scheme.query other server (exchange server wanted other key) ≡ scheme.query wanted server key
