-- The turning code (document 02, item 4; `code=turn`), over any sum of symbols: the short code, whose N servers (01: mirrors) change their parts from
-- fetch to fetch. The key says by how much: its last digit is the turn r, and server n plays server (n + r) modulo N of the short code. What a row
-- names, and what is answered to it, is in short_scheme/specs/Short.antt.
use Rattle.std.specs.Prelude.{Bool, ◌&&◌, List, [], map, ℕ, ◌+◌, ◌-◌, ◌%◌, eqb, length, get_or, take}
use Rattle.lists.specs.Ranges.{range}
use Rattle.lists.specs.Below.{all_below}
use Rattle.parameters.specs.Measures.{turn_sizes}
use Rattle.symbol.specs.Sum.{Sum}
use Rattle.scheme.specs.Scheme.{Scheme}
use Rattle.short_scheme.specs.Short.{short_query, short_answer_length, short_answer, short_recover}

-- the turn r: the last of a key's K digits
abbrev pub turn_of : List ℕ → ℕ
turn_of key = get_or key (length key - 1) 0

-- the other digits: a key of the short code
abbrev pub other_digits : List ℕ → List ℕ
other_digits key = take (length key - 1) key

-- the server of the short code that server n plays
abbrev pub part_of : ℕ → List ℕ → ℕ → ℕ
part_of N key n = (n + turn_of key) % N

-- the server that plays server `part` of the short code
abbrev pub player_of : ℕ → List ℕ → ℕ → ℕ
player_of N key part = (part + (N - turn_of key)) % N

-- a query (01: request) is that of the server of the short code that is played, by the other digits
unfoldable pub turn_query : ℕ → ℕ → ℕ → List ℕ → List ℕ
turn_query N wanted server key = short_query N wanted (part_of N key server) (other_digits key)

-- every row of K digits below N is admitted, by every server
unfoldable pub turn_admits : ℕ → ℕ → List ℕ → Bool
turn_admits N K query = eqb (length query) K && all_below N query

-- the answers in the order of the servers of the short code: of each part, that of the server that plays it
unfoldable pub by_part : ℕ → List ℕ → List (List ℕ) → List (List ℕ)
by_part N key answers = map (λ part. get_or answers (player_of N key part) []) (range 0 N)

-- the message is what the short code recovers from them, by the other digits
unfoldable pub turn_recover : Sum → ℕ → ℕ → List ℕ → List (List ℕ) → List ℕ
turn_recover sum N S key answers = short_recover sum N S (other_digits key) (by_part N key answers)

-- The code as a scheme. Rows are answered as in the short code: the row of zeros with no bytes, whichever server gets it
abbrev pub turn_scheme : Sum → ℕ → ℕ → ℕ → Scheme
turn_scheme sum N K S = record {
  sizes = turn_sizes N K S;
  key_good = all_below N;
  query = turn_query N;
  admits = λ server. turn_admits N K;
  answer_length = short_answer_length S;
  answer = short_answer sum N S;
  recover = λ wanted. turn_recover sum N S;
}
