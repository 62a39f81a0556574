-- What of a catalogue's scheme does not depend on what its symbols are combined by (document 02, item 2: a catalogue with `sum=add` goes by the same
-- rules), nor on its dates (item 1), nor on where its messages end (item 6): its sizes, which keys are good, the queries, which of them a server admits,
-- and how long their answers are.
use Rattle.std.specs.Prelude.{◌≡◌, List, ℕ}
use Rattle.scheme.specs.Scheme.{Scheme}
use Rattle.catalogue.specs.declared.Catalogue.{Catalogue}

-- two schemes that answer and recover in ways of their own, and are alike in all else
pub record SameQueries (one other : Scheme) : Type 0 where
  pub sizes : one.sizes ≡ other.sizes
  pub keys : (key : List ℕ) → one.key_good key ≡ other.key_good key
  pub queries : (wanted server : ℕ) (key : List ℕ) → one.query wanted server key ≡ other.query wanted server key
  pub admission : (server : ℕ) (query : List ℕ) → one.admits server query ≡ other.admits server query
  pub lengths : (query : List ℕ) → one.answer_length query ≡ other.answer_length query

-- two catalogues of the same code, N, K and S: they differ at most in their sums, their dates and their lengths
pub record SameNumbers (c d : Catalogue) : Type 0 where
  pub code : c.code ≡ d.code
  pub servers : c.servers ≡ d.servers
  pub messages : c.messages ≡ d.messages
  pub symbol : c.symbol ≡ d.symbol
