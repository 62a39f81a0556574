-- What a call writes at the start of a buffer and gives the length of, by another name of the same text (`written_as`).
use mathlib.Core.Path.{◌≡◌}
use mathlib.Core.List.{List}
use Prim.Native.Nat.{ℕ}
use lib.ListN.{length}
use Rattle.lists.specs.Parts.{put}

pub written_as : (text same before : List ℕ) (given : ℕ) (after : List ℕ) → same ≡ text → (given ≡ length text) × (after ≡ put 0 text before)
    → (given ≡ length same) × (after ≡ put 0 same before)
written_as text same before given after e w = rw e w
