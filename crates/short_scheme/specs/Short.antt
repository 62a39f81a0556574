-- The short code: the N-ary-indexed code of Tian, Sun and Chen (source 000, section III-B; document 01, 'Short code'), over any
-- sum of symbols. There are N servers (01: mirrors) and K messages (packs) of N - 1 symbols (pieces) of S bytes, (17).
-- Numbers in brackets are the paper's. A row has one digit for each message.
use Rattle.std.specs.Prelude.{Bool, cond, ◌&&◌, ℕ, zero, suc, ◌+◌, ◌-◌, ◌%◌, eqb, length, get_or}
use mathlib.Core.List.{List, [], ◌∷◌, flat_map}
use Rattle.lists.specs.Ranges.{range}
use Rattle.lists.specs.Below.{all_below}
use Rattle.lists.specs.Inserts.{insert_at}
use Rattle.parameters.specs.Measures.{short_sizes}
use Rattle.symbol.specs.Sum.{Sum, zeros, symbol_at, total}
use Rattle.scheme.specs.Scheme.{Scheme}

unfoldable pub digit_sum : List ℕ → ℕ
digit_sum [] = 0
digit_sum (d ∷ row) = d + digit_sum row

-- every digit is 0
abbrev pub all_zero : List ℕ → Bool
all_zero row = all_below 1 row

-- T (F* in (22)): the key's digits summed up, modulo N. A key is K - 1 digits below N, (20)
abbrev pub key_sum : ℕ → List ℕ → ℕ
key_sum N key = digit_sum key % N

-- (n - T) modulo N: with this digit besides, the key's digits sum up to n
abbrev pub balancing : ℕ → ℕ → List ℕ → ℕ
balancing N n key = (n + (N - key_sum N key)) % N

-- The query function, (22) (01: request): the balancing digit inserted at the position of the wanted message
unfoldable pub short_query : ℕ → ℕ → ℕ → List ℕ → List ℕ
short_query N wanted server key = insert_at wanted (balancing N server key) key

-- The query set of a server, (18): K digits below N that sum up to its number, modulo N
unfoldable pub short_admits : ℕ → ℕ → ℕ → List ℕ → Bool
short_admits N K server query = eqb (length query) K && (all_below N query && eqb (digit_sum query % N) server)

-- The answer length function, (23): nothing for the row of zeros, else one symbol
unfoldable pub short_answer_length : ℕ → List ℕ → ℕ
short_answer_length S query = cond (all_zero query) 0 S

-- What the digits of a row name, (21): of its message, digit d names symbol d - 1, and digit 0 the zeros, which are not stored. The symbols of
-- the row's first message are those from number `first` of the store on, and each next message's lie `stride` symbols later
unfoldable pub named : ℕ → ℕ → ℕ → List ℕ → List ℕ → List (List ℕ)
named first stride S store [] = []
named first stride S store (zero ∷ row) = named (first + stride) stride S store row
named first stride S store (suc d ∷ row) = symbol_at S store (first + d) ∷ named (first + stride) stride S store row

-- the named symbols combined; the row of zeros is answered with no bytes
abbrev pub strided_answer : Sum → ℕ → ℕ → ℕ → List ℕ → List ℕ → List ℕ
strided_answer sum first stride S store row = cond (all_zero row) [] (total sum S (named first stride S store row))

-- The answer function, (24): message p's symbols are those from number p × (N - 1) of the store on
unfoldable pub short_answer : Sum → ℕ → ℕ → List ℕ → List ℕ → List ℕ
short_answer sum N S store query = strided_answer sum 0 (N - 1) S store query

-- an empty answer counts as zeros
unfoldable pub or_zeros : ℕ → List ℕ → List ℕ
or_zeros S [] = zeros S
or_zeros S (x ∷ answer) = x ∷ answer

-- the answer of server n, as recovery counts it
abbrev pub counted : ℕ → List (List ℕ) → ℕ → List ℕ
counted S answers n = or_zeros S (get_or answers n [])

-- The symbol that digit d names, (27): the answer of server (d + T) modulo N, less that of server T
unfoldable pub recovered : Sum → ℕ → ℕ → ℕ → List (List ℕ) → ℕ → List ℕ
recovered sum N S T answers d = sum.minus (counted S answers ((d + T) % N)) (counted S answers T)

-- The reconstruction function: the symbols of digits 1 to N - 1
unfoldable pub short_recover : Sum → ℕ → ℕ → List ℕ → List (List ℕ) → List ℕ
short_recover sum N S key answers = flat_map (recovered sum N S (key_sum N key) answers) (range 1 (N - 1))

-- The code as a scheme. Recovery needs the key and not the number of the wanted message
abbrev pub short_scheme : Sum → ℕ → ℕ → ℕ → Scheme
short_scheme sum N K S = record {
  sizes = short_sizes N K S;
  key_good = all_below N;
  query = short_query N;
  admits = short_admits N K;
  answer_length = short_answer_length S;
  answer = short_answer sum N S;
  recover = λ wanted. short_recover sum N S;
}
