-- The sizes of each code (document 01, 'Catalogue', 'Short code', 'Even code', 'Session'; document 02, items 4 and 8): a message is its
-- symbols one after another, the store its messages one after another.
use Rattle.std.specs.Prelude.{ℕ, ◌+◌, ◌-◌, ◌*◌, ◌/◌, ◌^◌}
use Rattle.parameters.specs.declared.Sizes.{Sizes}
use Rattle.parameters.specs.Bounds.{blocks}

-- The short code: N - 1 symbols, a key of K - 1 digits, a query of K digits, an answer of one symbol
unfoldable pub short_sizes : ℕ → ℕ → ℕ → Sizes
short_sizes N K S = record {
  symbols = N - 1;
  message = (N - 1) * S;
  store = K * ((N - 1) * S);
  key = K - 1;
  query = K;
  slot = S;
}

-- The turning code (document 02, item 4): the short code's, but that the key has K digits, the turn besides
unfoldable pub turn_sizes : ℕ → ℕ → ℕ → Sizes
turn_sizes N K S = record {
  symbols = (short_sizes N K S).symbols;
  message = (short_sizes N K S).message;
  store = (short_sizes N K S).store;
  key = K;
  query = (short_sizes N K S).query;
  slot = (short_sizes N K S).slot;
}

-- The rows of an even query
unfoldable pub even_rows : ℕ → ℕ → ℕ
even_rows N K = N ^ (K - 1) + (N ^ (K - 1) - 1) / (N - 1)

-- The even code: N^K symbols, a key of K permutations of them, an answer of one symbol for each row of the query
unfoldable pub even_sizes : ℕ → ℕ → ℕ → Sizes
even_sizes N K S = record {
  symbols = N ^ K;
  message = N ^ K * S;
  store = K * (N ^ K * S);
  key = K * N ^ K;
  query = K * N ^ (K - 1);
  slot = even_rows N K * S;
}

-- The round code (document 02, item 8): blocks of N - 1 symbols, a key with a number for each block, a query with a row of K digits for each, an
-- answer of at most one symbol for each row
unfoldable pub round_sizes : ℕ → ℕ → ℕ → Sizes
round_sizes N K S = record {
  symbols = blocks N K * (N - 1);
  message = blocks N K * ((N - 1) * S);
  store = K * (blocks N K * ((N - 1) * S));
  key = blocks N K;
  query = blocks N K * K;
  slot = blocks N K * S;
}

-- The longest key of an admitted catalogue, and its most servers: the places that a session keeps for them
abbrev pub key_places : ℕ
key_places = 2048

abbrev pub most_servers : ℕ
most_servers = 16
