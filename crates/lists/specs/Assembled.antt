-- Parts written into a buffer one after another.
use Rattle.std.specs.Prelude.{ℕ, List, [], ◌∷◌}
use Rattle.lists.specs.Parts.{put, lay}

-- A part: where it begins, and its bytes
abbrev pub Part : Type 0
Part = ℕ × List ℕ

-- the buffer after all parts are written, each by `write`
unfoldable pub assemble_by : (ℕ → List ℕ → List ℕ → List ℕ) → List Part → List ℕ → List ℕ
assemble_by write [] buffer = buffer
assemble_by write (part ∷ parts) buffer = assemble_by write parts (write part.0 part.1 buffer)

abbrev pub assemble : List Part → List ℕ → List ℕ
assemble = assemble_by put

-- as far as the buffer reaches
abbrev pub lay_all : List Part → List ℕ → List ℕ
lay_all = assemble_by lay
