-- The printer's output (document 01, 'Request printer'), over the code of each catalogue: one line for each server (01: mirror) with its
-- query (01: request) in decimal, or one line with the number of the refusal.
use Rattle.std.specs.Prelude.{ℕ, not, length, Ok, Err}
use mathlib.Core.List.{List, [], ◌∷◌, ◌++◌, flat_map}
use Rattle.std.proofs.Math.Option.{Option, none, some}
use Rattle.lists.specs.Ascii.{ascii}
use Rattle.lists.specs.Below.{all_below}
use Rattle.lists.specs.Padded.{padded}
use Rattle.lists.specs.Ranges.{range}
use Rattle.refusal.specs.Verdicts.{Verdict}
use Rattle.refusal.specs.declared.Refusal.{Refusal}
use Rattle.refusal.specs.Numbers.{number_of, refusal_of}
use Rattle.refusal.specs.Foremost.{Fault, fault, foremost}
use Rattle.scheme.specs.Scheme.{Scheme}
use Rattle.catalogue.specs.declared.Catalogue.{Catalogue}
use Rattle.session.specs.Calls.{begin_faults}
use Rattle.text_lines.specs.Decimal.{decimal}
use Rattle.text_lines.specs.Lines.{number_text}
use Rattle.printing.specs.declared.Page.{Page}
use Rattle.number_lists.specs.NumberLists.{spaced}
use Rattle.printing.specs.Input.{Asked, input_asks}

-- what stands before a server's query
abbrev pub query_head : ℕ → List ℕ
query_head server = ascii "mirror=" ++ (decimal server ++ ascii " request=")

-- the line of a server and its query
unfoldable pub query_line : ℕ → List ℕ → List ℕ
query_line server query = query_head server ++ (spaced query ++ ascii "\n")

-- the line of a refusal
unfoldable pub refusal_line : Refusal → List ℕ
refusal_line refusal = number_text (ascii "refused=") (number_of refusal)

module _ (scheme_of : Catalogue → Scheme) where
  -- as at begin; a number above 255 is no key's either
  abbrev pub asked_faults : Asked → List Fault
  asked_faults a = begin_faults scheme_of a.catalogue a.wanted a.key ++ (fault 6 (not (all_below 256 a.key)) ∷ [])

  unfoldable pub asked_verdict : Asked → Verdict
  asked_verdict a = foremost (asked_faults a)

  -- the query that is asked for at a server
  abbrev pub asked_query : Asked → ℕ → List ℕ
  asked_query a server = (scheme_of a.catalogue).query a.wanted server a.key

  -- a line for each server, in order
  unfoldable pub query_lines : Asked → List ℕ
  query_lines a = flat_map (λ server. query_line server (asked_query a server)) (range 0 a.catalogue.servers)

  abbrev pub print_by : Verdict → Asked → List ℕ
  print_by (Ok _) a = query_lines a
  print_by (Err refusal) a = refusal_line refusal

  unfoldable pub answer_to : Asked → List ℕ
  answer_to a = print_by (asked_verdict a) a

  abbrev pub output_by : Option Asked → List ℕ
  output_by none = refusal_line (refusal_of 1)
  output_by (some a) = answer_to a

  -- the whole output for an input
  unfoldable pub printed : List ℕ → List ℕ
  printed input = output_by (input_asks input)

-- ---- the page that holds an output

-- room for 16 lines of 19 bytes without their queries, and 2,048 numbers of three digits and a space
abbrev pub page_bytes : ℕ
page_bytes = 8496

-- the output at the start, and zeros after it
unfoldable pub page_of : List ℕ → Page
page_of output = record { bytes = padded page_bytes output; length = length output }
