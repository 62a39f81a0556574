-- What a server is shown does not depend on where messages end (document 02, item 6): the same fetches under a catalogue with other lengths, or with none,
-- show it the same (`LengthsHidden`).
use Rattle.std.specs.Prelude.{◌≡◌, List, ℕ, ◌<◌}
use Rattle.lists.specs.Sums.{All}
use Rattle.scheme.specs.Scheme.{Scheme, Valid}
use Rattle.lengths.specs.declared.Lengths.{Lengths}
use Rattle.catalogue.specs.declared.Catalogue.{Catalogue}
use Rattle.catalogue.specs.Catalogue.{Admitted}
use Rattle.fetches.specs.Fetches.{Fetch}
use Rattle.fetches.specs.Shown.{shown}

-- the catalogue with these lengths
abbrev pub with_lengths : Lengths → Catalogue → Catalogue
with_lengths l c = record {
  code = c.code;
  sum = c.sum;
  opening = c.opening;
  closing = c.closing;
  lengths = l;
  servers = c.servers;
  messages = c.messages;
  symbol = c.symbol;
}

-- a fetch of a message in the catalogue, by a valid key
pub record Begins (scheme_of : Catalogue → Scheme) (c : Catalogue) (f : Fetch) : Type 0 where
  pub inside : f.wanted < c.messages
  pub valid : Valid (scheme_of c) f.key

abbrev pub LengthsHidden : (Catalogue → Scheme) → Type 0
LengthsHidden scheme_of =
    (c : Catalogue) → Admitted c → (l : Lengths) → Admitted (with_lengths l c) → (store : List ℕ) (n : ℕ) → n < c.servers → (fs : List Fetch)
    → All (Begins scheme_of c) fs → shown scheme_of (with_lengths l c) store n fs ≡ shown scheme_of c store n fs
