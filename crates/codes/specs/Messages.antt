-- The messages of a store under a catalogue (document 02, item 6), over the code of each catalogue: a message is its symbols, as far as its length goes.
-- What recovery, the plain fetch and the claim on lists of fetches call a message is this one definition.
use Rattle.std.specs.Prelude.{ℕ, List, take}
use Rattle.scheme.specs.Scheme.{Scheme, message_of, recover_in}
use Rattle.lengths.specs.Lengths.{length_of}
use Rattle.catalogue.specs.declared.Catalogue.{Catalogue}

module _ (scheme_of : Catalogue → Scheme) where
  -- the bytes of message k (01: pack k): its length, and in a catalogue without lengths all of its symbols
  abbrev pub message_length : Catalogue → ℕ → ℕ
  message_length c k = length_of c.lengths (scheme_of c).sizes.message k

  -- message k of the store: the first bytes of what the store holds of it, padding left out
  abbrev pub message_in : Catalogue → List ℕ → ℕ → List ℕ
  message_in c store k = take (message_length c k) (message_of (scheme_of c) store k)

  -- the message that the answers in a buffer give
  abbrev pub recovered_in : Catalogue → ℕ → List ℕ → List ℕ → List ℕ
  recovered_in c wanted key answers = take (message_length c wanted) (recover_in (scheme_of c) c.servers wanted key answers)
