-- The places of a session's key (document 01, 'Session'): as many as the longest key has.
use Rattle.std.specs.Prelude.{ℕ, List}
use Rattle.lists.specs.Padded.{padded}
use Rattle.parameters.specs.Measures.{key_places}

-- the key, and 0 in the places that it leaves
abbrev pub padded_key : List ℕ → List ℕ
padded_key = padded key_places
