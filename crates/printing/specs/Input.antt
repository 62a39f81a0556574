-- The printer's input (document 01, 'Request printer'): the catalogue, then `wanted=` k, then `key=` and the key's numbers, and nothing
-- after them; at most 65,536 bytes. Anything else is refusal 1.
use Rattle.std.specs.Prelude.{ℕ, ◌+◌, cond, List, ◌++◌, ltb, length, drop, Ok, Err}
use Rattle.std.proofs.Math.Option.{Option, none, some}
use Rattle.lists.specs.Ascii.{ascii}
use Rattle.refusal.specs.Verdicts.{Verdict}
use Rattle.catalogue.specs.declared.Catalogue.{Catalogue}
use Rattle.text_lines.specs.Lines.{begins, number_text, number_line}
use Rattle.catalogue_text.specs.Text.{text_with}
use Rattle.catalogue_text.specs.Parsing.{catalogue_lines}
use Rattle.number_lists.specs.NumberLists.{on_number, numbers_at, spaced}

-- What an input asks for. The numbers of the key are as they stand, above 255 too
pub record Asked : Type 0 where
  pub catalogue : Catalogue
  pub wanted : ℕ
  pub key : List ℕ

abbrev pub asked : Catalogue → ℕ → List ℕ → Asked
asked c wanted key = record { catalogue = c; wanted = wanted; key = key }

abbrev pub wanted_name : List ℕ
wanted_name = ascii "wanted="

abbrev pub key_name : List ℕ
key_name = ascii "key="

-- the most bytes of an input
abbrev pub most_input : ℕ
most_input = 65536

-- the key's line at place `at`, which is the last
unfoldable pub key_line : List ℕ → ℕ → Option (List ℕ)
key_line text at = cond (begins key_name (drop at text)) (numbers_at text (at + length key_name)) none

-- a part that was read goes on, or ends the reading
abbrev pub on_catalogue : Verdict → Option Asked → Option Asked
on_catalogue (Ok _) rest = rest
on_catalogue (Err refusal) rest = none

abbrev pub on_key : Option (List ℕ) → (List ℕ → Asked) → Option Asked
on_key none found = none
on_key (some key) found = some (found key)

-- the catalogue's lines and the two behind them
unfoldable pub lines_ask : List ℕ → Option Asked
lines_ask text =
    let found = catalogue_lines text in
    on_catalogue found.verdict
    (on_number (number_line 5 wanted_name text found.next) λ wanted next.
    on_key (key_line text next) (asked found.catalogue wanted))

unfoldable pub input_asks : List ℕ → Option Asked
input_asks text = cond (ltb most_input (length text)) none (lines_ask text)

-- The input that asks for this, and says these lengths, of which the catalogue has what it can keep
unfoldable pub input_of : Asked → List ℕ → List ℕ
input_of a ns = text_with a.catalogue ns ++ (number_text wanted_name a.wanted ++ (key_name ++ (spaced a.key ++ ascii "\n")))
