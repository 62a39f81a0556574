-- The bench cards B1 to B12 of document 01, as one table (`cards`): what each says of the published rules, and the bytes and numbers that it
-- prints. B11 and B12 have one message, and show the number of document 02, item 9.
use Rattle.std.specs.Prelude.{◌≡◌, List, [], ◌∷◌, ◌++◌, map, ℕ, length, Ok, Err}
use Rattle.lists.specs.Ascii.{ascii}
use Rattle.lists.specs.Ranges.{range}
use Rattle.refusal.specs.Verdicts.{accepted, Verdict, Outcome}
use Rattle.refusal.specs.Numbers.{refusal_of}
use Rattle.refusal.specs.Chain.{refused}
use Rattle.parameters.specs.Measures.{even_rows}
use Rattle.scheme.specs.Scheme.{honest_answers}
use Rattle.calendar.specs.Calendar.{no_day}
use Rattle.lengths.specs.Lengths.{no_lengths}
use Rattle.symbol.specs.declared.Operation.TheVariants.{ExclusiveOr}
use Rattle.catalogue.specs.declared.Catalogue.{Catalogue}
use Rattle.catalogue.specs.declared.Code.{Code}
use Rattle.catalogue.specs.declared.Code.TheVariants.{Short, Even}
use Rattle.catalogue.specs.Catalogue.{catalogue_verdict}
use Rattle.even_places.specs.Rule.{layout}
use Rattle.codes.specs.Codes.{scheme_of}
use Rattle.server.specs.Answering.{answering}
use Rattle.session.specs.Calls.{begin_verdict}
use Rattle.printing.specs.Output.{printed}

pub data Card : Type 0 where
  -- the request printer: input, output
  prints : List ℕ → List ℕ → Card
  -- the queries to servers 0, 1, .. for a wanted message and a key
  asks : Catalogue → ℕ → List ℕ → List (List ℕ) → Card
  -- the honest answers from a store, and the message that they give
  recovers : Catalogue → List ℕ → ℕ → List ℕ → List (List ℕ) → List ℕ → Card
  -- what a server answers to a query, into four bytes that stay as they were: the outcome
  answers : Catalogue → ℕ → List ℕ → List ℕ → Outcome → Card
  -- the rows of an even query for N and K, by the formula and by the layout
  rows : ℕ → ℕ → ℕ → Card
  -- the verdict on a catalogue
  judges : Catalogue → Verdict → Card
  -- the verdict on a begin
  begins : Catalogue → ℕ → List ℕ → Verdict → Card

-- the buffer of an answer: no byte of it is 0, so that a byte which is written shows
abbrev pub lent_bytes : List ℕ
lent_bytes = 201 ∷ 202 ∷ 203 ∷ 204 ∷ []

unfoldable pub Holds : Card → Type 0
Holds (prints input output) = printed scheme_of input ≡ output
Holds (asks c wanted key queries) = map (λ server. (scheme_of c).query wanted server key) (range 0 c.servers) ≡ queries
Holds (recovers c store wanted key got message) =
    let honest = honest_answers (scheme_of c) c.servers store wanted key in
    honest ++ ((scheme_of c).recover wanted key honest ∷ []) ≡ got ++ (message ∷ [])
Holds (answers c server store query outcome) = answering scheme_of c no_day server store query lent_bytes ≡ record { outcome = outcome; buffer = lent_bytes }
Holds (rows N K many) = even_rows N K ∷ length (layout N K) ∷ [] ≡ many ∷ many ∷ []
Holds (judges c verdict) = catalogue_verdict c ≡ verdict
Holds (begins c wanted key verdict) = begin_verdict scheme_of c wanted key ≡ verdict

-- a catalogue of exclusive or without dates and lengths: code, servers, messages, symbol. No day is looked at under it, so the cards answer on none
abbrev pub cat : Code → ℕ → ℕ → ℕ → Catalogue
cat code N K S = record { code = code; sum = ExclusiveOr; opening = no_day; closing = no_day; lengths = no_lengths; servers = N; messages = K; symbol = S }

-- the messages 5A and C3 (hex) of B2 and B3
abbrev pub pair : List ℕ
pair = 90 ∷ 195 ∷ []

-- a store of three messages of eight bytes, none of them 0, since B4 to B6 name none
abbrev pub filled : List ℕ
filled = range 1 24

-- both permutations 0 1 2 3
abbrev identities : List ℕ
identities = 0 ∷ 1 ∷ 2 ∷ 3 ∷ 0 ∷ 1 ∷ 2 ∷ 3 ∷ []

unfoldable pub cards : List Card
cards =
    -- B1
    prints (ascii "code=short\nmirrors=3\npacks=3\npiece=4\nwanted=1\nkey=2 0\n")
    (ascii "mirror=0 request=2 1 0\nmirror=1 request=2 2 0\nmirror=2 request=2 0 0\n")
    -- B2
    ∷ asks (cat Short 2 2 1) 0 (1 ∷ []) ((1 ∷ 1 ∷ []) ∷ (0 ∷ 1 ∷ []) ∷ [])
    ∷ recovers (cat Short 2 2 1) pair 0 (1 ∷ []) ((153 ∷ []) ∷ (195 ∷ []) ∷ []) (90 ∷ [])
    -- B3
    ∷ asks (cat Short 2 2 1) 0 (0 ∷ []) ((0 ∷ 0 ∷ []) ∷ (1 ∷ 0 ∷ []) ∷ [])
    ∷ recovers (cat Short 2 2 1) pair 0 (0 ∷ []) ([] ∷ (90 ∷ []) ∷ []) (90 ∷ [])
    -- B4, B5, B6
    ∷ answers (cat Short 3 3 4) 0 filled (0 ∷ 0 ∷ 1 ∷ []) (Err (refusal_of 7))
    ∷ answers (cat Short 3 3 4) 0 filled (0 ∷ 1 ∷ 3 ∷ []) (Err (refusal_of 7))
    ∷ answers (cat Short 3 3 4) 0 filled (0 ∷ 0 ∷ 0 ∷ []) (Ok 0)
    -- B7
    ∷ asks (cat Even 2 2 1) 0 identities ((0 ∷ 0 ∷ 2 ∷ 1 ∷ []) ∷ (1 ∷ 1 ∷ 3 ∷ 0 ∷ []) ∷ [])
    -- B8
    ∷ asks (cat Even 2 2 1) 1 identities ((0 ∷ 0 ∷ 1 ∷ 2 ∷ []) ∷ (1 ∷ 1 ∷ 0 ∷ 3 ∷ []) ∷ [])
    -- B9
    ∷ rows 3 3 13
    ∷ rows 2 8 255
    ∷ rows 16 2 17
    -- B10
    ∷ judges (cat Even 2 8 1) accepted
    ∷ judges (cat Even 2 9 1) (refused 2)
    -- B11, at begin and in the printer
    ∷ begins (cat Short 2 1 1) 0 [] (refused 17)
    ∷ prints (ascii "code=short\nmirrors=2\npacks=1\npiece=1\nwanted=0\nkey=\n") (ascii "refused=17\n")
    -- B12
    ∷ begins (cat Even 2 1 1) 0 (0 ∷ 0 ∷ []) (refused 17)
    ∷ []
