-- Numbers in decimal with one space between, as text, written and read (document 01, 'Request printer'). Byte 10 ends the list that is
-- read, and the text with it.
use Rattle.std.specs.Prelude.{ℕ, zero, suc, ◌+◌, Bool, cond, ◌&&◌, eqb, length, take, drop, get_or, Some, None, Option as Found}
use mathlib.Core.List.{List, [], ◌∷◌, ◌++◌, flat_map}
use Rattle.std.proofs.Math.Option.{Option, none, some}
use Rattle.lists.specs.Ascii.{ascii}
use Rattle.lists.specs.Below.{all_below}
use Rattle.text_lines.specs.declared.Line.{Line}
use Rattle.text_lines.specs.Decimal.{decimal, digit_count, value_from}
use Rattle.text_lines.specs.Lines.{is_numeral, line_of}
use Rattle.number_lists.specs.declared.Scanned.{Scanned}

-- ---- written

abbrev pub after_space : ℕ → List ℕ
after_space n = ascii " " ++ decimal n

-- numbers, each after a space
unfoldable pub after_spaces : List ℕ → List ℕ
after_spaces numbers = flat_map after_space numbers

unfoldable pub spaced : List ℕ → List ℕ
spaced [] = []
spaced (n ∷ numbers) = decimal n ++ after_spaces numbers

-- ---- read

-- what is read at a place goes on with its value and the place after it, or ends the reading
abbrev pub on_number : {A : Type 0} → Found (Line ℕ) → (ℕ → ℕ → Option A) → Option A
on_number (Some line) continue = continue line.value line.next
on_number None continue = none

-- a number at the start of a text, which begins at place `at`
unfoldable pub numeral_from : ℕ → List ℕ → Found (Line ℕ)
numeral_from at text =
    let count = digit_count text in cond (is_numeral 5 count text) (Some (line_of (value_from 0 (take count text)) (at + count))) None

-- the number at place `at`
abbrev pub numeral_at : List ℕ → ℕ → Found (Line ℕ)
numeral_at text at = numeral_from at (drop at text)

-- byte 10 stands at the place, and ends the text
abbrev pub ends_at : List ℕ → ℕ → Bool
ends_at text at = eqb (get_or text at 0) 10 && eqb (length text) (at + 1)

abbrev pub before : ℕ → Option (List ℕ) → Option (List ℕ)
before n none = none
before n (some numbers) = some (n ∷ numbers)

-- the numbers from place `at` on, one or more, at most `most`
unfoldable pub numbers_from : ℕ → List ℕ → ℕ → Option (List ℕ)
numbers_from zero text at = none
numbers_from (suc most) text at =
    on_number (numeral_at text at) λ n end.
    cond (ends_at text end) (some (n ∷ []))
    (cond (eqb (get_or text end 0) 32) (before n (numbers_from most text (end + 1))) none)

-- the numbers from place `at` on, or none of them; a text has fewer numbers than bytes
unfoldable pub numbers_at : List ℕ → ℕ → Option (List ℕ)
numbers_at text at = cond (ends_at text at) (some []) (numbers_from (length text) text at)

-- ---- what a first pass over the numbers says of them: how many they are, and whether each is a byte

abbrev pub scanned : ℕ → Bool → Scanned
scanned count bytes = record { count = count; bytes = bytes }

abbrev pub scan_of : Option (List ℕ) → Found Scanned
scan_of none = None
scan_of (some numbers) = Some (scanned (length numbers) (all_below 256 numbers))

-- the numbers themselves
abbrev pub list_of : Option (List ℕ) → List ℕ
list_of none = []
list_of (some numbers) = numbers
