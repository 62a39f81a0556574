-- The marks of a session: for each place of its arrays, whether a query was issued to that server and its answer taken.
use Rattle.std.specs.Prelude.{ℕ, Bool, true, false, not, List, ltb, get_or, replicate}
use Rattle.lists.specs.Ranges.{every}
use Rattle.parameters.specs.Measures.{most_servers}

-- no mark yet
unfoldable pub no_marks : List Bool
no_marks = replicate most_servers false

-- the mark of a place
abbrev pub marked : List Bool → ℕ → Bool
marked marks place = get_or marks place false

-- mark_good servers place issued taken: some history of calls gives the place these marks. Issued only to a server, taken only if issued
abbrev pub mark_good : ℕ → ℕ → Bool → Bool → Bool
mark_good servers place true taken = ltb place servers
mark_good servers place false taken = not taken

unfoldable pub marks_good : ℕ → List Bool → List Bool → Bool
marks_good servers issued taken = every most_servers (λ place. mark_good servers place (marked issued place) (marked taken place))

-- an answer of each server was taken
unfoldable pub all_taken : ℕ → List Bool → Bool
all_taken servers taken = every servers (marked taken)
