-- The round code: the short code, made symmetric in the varieties of its answers (source 000, section V-C; document 02, item 8; `code=round`), over any
-- sum of symbols. A message (01: pack) is V blocks of N - 1 symbols (pieces), as many as the short code has keys; each block is fetched by the short
-- code, and each short key serves one block. The rule for a block is in short_scheme/specs/Short.antt. Numbers in brackets are the paper's.
use Rattle.std.specs.Prelude.{Bool, ◌&&◌, ℕ, zero, suc, ◌+◌, ◌-◌, ◌*◌, ◌/◌, ◌%◌, ◌^◌, eqb, length, get_or}
use mathlib.Core.List.{List, [], ◌∷◌, map, flat_map}
use Rattle.lists.specs.Parts.{cut}
use Rattle.lists.specs.Ranges.{range, every}
use Rattle.lists.specs.Distinct.{distinct, is_permutation}
use Rattle.lists.specs.Sums.{sum}
use Rattle.parameters.specs.Bounds.{blocks}
use Rattle.parameters.specs.Measures.{round_sizes}
use Rattle.symbol.specs.Sum.{Sum}
use Rattle.scheme.specs.Scheme.{Scheme}
use Rattle.short_scheme.specs.Short.{short_query, short_admits, short_answer_length, strided_answer, short_recover}

-- a number's digits in base N, `count` of them, the most significant first
unfoldable pub digits : ℕ → ℕ → ℕ → List ℕ
digits N zero v = []
digits N (suc count) v = v / N ^ count ∷ digits N count (v % N ^ count)

-- the number that has these digits
unfoldable pub number : ℕ → List ℕ → ℕ
number N [] = 0
number N (d ∷ ds) = d * N ^ length ds + number N ds

-- The short key of block i: entry i of the key, written in base N with K - 1 digits. A key is one permutation of 0 to V - 1: each short key once, (72)
unfoldable pub short_key : ℕ → ℕ → List ℕ → ℕ → List ℕ
short_key N K key i = digits N (K - 1) (get_or key i 0)

-- A query (01: request): for each block the row that the short code asks for, by the block's short key
unfoldable pub round_query : ℕ → ℕ → ℕ → ℕ → List ℕ → List ℕ
round_query N K wanted server key = flat_map (λ i. short_query N wanted server (short_key N K key i)) (range 0 (blocks N K))

-- row i of a query
unfoldable pub row : ℕ → List ℕ → ℕ → List ℕ
row K query i = cut (i * K) K query

-- The query set of a server, (75): V rows of its short-code set, no two of them the same, so that each row of the set is there once (`EachOnce`). Rows are
-- told apart by their numbers
unfoldable pub round_admits : ℕ → ℕ → ℕ → List ℕ → Bool
round_admits N K server query =
    eqb (length query) (blocks N K * K)
    && (every (blocks N K) (λ i. short_admits N K server (row K query i))
    && distinct (map (λ i. number N (row K query i)) (range 0 (blocks N K))))

-- how long the answer to row i is: a row of zeros is answered with no bytes
unfoldable pub row_length : ℕ → ℕ → List ℕ → ℕ → ℕ
row_length K S query i = short_answer_length S (row K query i)

-- how long the answers to the rows before row i are together
unfoldable pub length_before : ℕ → ℕ → List ℕ → ℕ → ℕ
length_before K S query i = sum (row_length K S query) (range 0 i)

-- The answer to row i, which names symbols of block i alone: of the first message those from number i × (N - 1) of the store on, and of each next
-- message those that lie a message further
unfoldable pub row_answer : Sum → ℕ → ℕ → ℕ → List ℕ → List ℕ → ℕ → List ℕ
row_answer sum N K S store query i = strided_answer sum (i * (N - 1)) (blocks N K * (N - 1)) S store (row K query i)

-- The answer to a query: those to its rows, one after another
unfoldable pub round_answer : Sum → ℕ → ℕ → ℕ → List ℕ → List ℕ → List ℕ
round_answer sum N K S store query = flat_map (row_answer sum N K S store query) (range 0 (blocks N K))

-- of each server's answer, the part that answers row i of its query
unfoldable pub answers_to : ℕ → ℕ → ℕ → ℕ → List ℕ → List (List ℕ) → ℕ → List (List ℕ)
answers_to N K S wanted key answers i =
    map (λ n.
    let query = round_query N K wanted n key in
    cut (length_before K S query i) (row_length K S query i) (get_or answers n [])) (range 0 N)

-- The message: block by block what the short code recovers, by the block's short key
unfoldable pub round_recover : Sum → ℕ → ℕ → ℕ → ℕ → List ℕ → List (List ℕ) → List ℕ
round_recover sum N K S wanted key answers =
    flat_map (λ i. short_recover sum N S (short_key N K key i) (answers_to N K S wanted key answers i)) (range 0 (blocks N K))

-- The code as a scheme
abbrev pub round_scheme : Sum → ℕ → ℕ → ℕ → Scheme
round_scheme sum N K S = record {
  sizes = round_sizes N K S;
  key_good = is_permutation (blocks N K);
  query = round_query N K;
  admits = round_admits N K;
  answer_length = λ query. length_before K S query (blocks N K);
  answer = round_answer sum N K S;
  recover = round_recover sum N K S;
}
