-- The meters of a session (document 02, item 5): for each place of its arrays, the bytes of the queries issued to that server (01: requests) and of the
-- answer taken from it.
use Rattle.std.specs.Prelude.{ℕ, ◌+◌, ◌%◌, Bool, true, false, ◌&&◌, List, leb, ltb, eqb, get_or, set, replicate}
use Rattle.lists.specs.Ranges.{every}
use Rattle.parameters.specs.Measures.{most_servers}
use Rattle.session_parts.specs.declared.Meters.{Meters}
use Rattle.session_parts.specs.Marks.{marked}

-- the most that a meter can say
abbrev pub most_bytes : ℕ
most_bytes = 4294967295

-- no bytes yet
unfoldable pub no_bytes : List ℕ
no_bytes = replicate most_servers 0

abbrev pub no_meters : Meters
no_meters = record { sent = no_bytes; got = no_bytes }

-- what a row of meters says at a place
abbrev pub counted : List ℕ → ℕ → ℕ
counted meters place = get_or meters place 0

-- so many bytes more at a place
abbrev pub count_more : List ℕ → ℕ → ℕ → List ℕ
count_more meters place bytes = set meters place (counted meters place + bytes)

-- a query of so many bytes was issued to the server; an answer was taken from it
abbrev pub count_issued : Meters → ℕ → ℕ → Meters
count_issued m server bytes = record { sent = count_more m.sent server bytes; got = m.got }

abbrev pub count_taken : Meters → ℕ → ℕ → Meters
count_taken m server bytes = record { sent = m.sent; got = count_more m.got server bytes }

-- a query of so many bytes would make the server's meter pass its most
abbrev pub meter_full : Meters → ℕ → ℕ → Bool
meter_full m server bytes = ltb most_bytes (counted m.sent server + bytes)

-- sent_good query issued bytes: some number of queries of `query` bytes each has so many bytes, one or more if the mark is set, and else none
abbrev pub sent_good : ℕ → Bool → ℕ → Bool
sent_good query true bytes = leb query bytes && eqb (bytes % query) 0
sent_good query false bytes = eqb bytes 0

-- got_good answer taken bytes: one answer of `answer` bytes if the mark is set, and else none
abbrev pub got_good : ℕ → Bool → ℕ → Bool
got_good answer true bytes = eqb bytes answer
got_good answer false bytes = eqb bytes 0

-- some history of calls gives these meters together with these marks, where a query has `query` bytes and the answer of each server `answer server`
unfoldable pub meters_good : ℕ → (ℕ → ℕ) → List Bool → List Bool → Meters → Bool
meters_good query answer issued taken m =
    every most_servers
    (λ place. sent_good query (marked issued place) (counted m.sent place) && got_good (answer place) (marked taken place) (counted m.got place))
