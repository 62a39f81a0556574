-- Lines of a name and a number, written and read (document 01, 'Catalogue'): a number has from one to `most` digits and no leading zero, except `0`
-- itself, and byte 10 ends the line. `most` is five in document 01, and seven in document 02, item 6. A line that is read yields its value and where
-- the next line begins.
use Rattle.std.specs.Prelude.{ℕ, ◌+◌, Bool, true, false, cond, not, ◌&&◌, List, [], ◌∷◌, ◌++◌, leb, ltb, eqb, length, take, drop, get_or, Option, Some, None}
use Rattle.text_lines.specs.declared.Line.{Line}
use Rattle.text_lines.specs.Decimal.{decimal, digit_count, value_from}

-- the line of a name and a number
abbrev pub number_text : List ℕ → ℕ → List ℕ
number_text name n = name ++ (decimal n ++ (10 ∷ []))

-- the text begins with the first list
unfoldable pub begins : List ℕ → List ℕ → Bool
begins [] text = true
begins (x ∷ xs) [] = false
begins (x ∷ xs) (y ∷ text) = eqb x y && begins xs text

-- more than one digit, and the first is 0
abbrev pub leading_zero : ℕ → List ℕ → Bool
leading_zero count text = ltb 1 count && eqb (get_or text 0 0) 48

-- the `count` digits at the start of a text are a number's, of at most `most`
unfoldable pub is_numeral : ℕ → ℕ → List ℕ → Bool
is_numeral most count text = leb 1 count && (leb count most && not (leading_zero count text))

-- a line of this value, before the place `next`
abbrev pub line_of : {T : Type 0} → T → ℕ → Line T
line_of value next = record { value = value; next = next }

-- a line's value and the next place go on, or the reading ends
abbrev pub on_line : {T A : Type 0} → Option (Line T) → (T → ℕ → Option A) → Option A
on_line (Some line) continue = continue line.value line.next
on_line None continue = None

-- a number and byte 10 at the start of a text, which begins at place `at`
unfoldable pub number_at : ℕ → ℕ → List ℕ → Option (Line ℕ)
number_at most at text =
    let count = digit_count text in
    cond (is_numeral most count text && eqb (get_or text count 0) 10) (Some (line_of (value_from 0 (take count text)) (at + count + 1))) None

-- the line at place `at`
unfoldable pub number_line : ℕ → List ℕ → List ℕ → ℕ → Option (Line ℕ)
number_line most name text at = cond (begins name (drop at text)) (number_at most (at + length name) (drop (at + length name) text)) None
