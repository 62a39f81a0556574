-- A line of a name and a day (document 02, item 1), written and read: behind the name four digits, hyphen, two digits, hyphen, two digits, and byte 10.
use Rattle.std.specs.Prelude.{ℕ, ◌+◌, ◌/◌, ◌%◌, cond, ◌&&◌, List, [], ◌∷◌, ◌++◌, length, take, drop, Option, Some, None}
use Rattle.text_lines.specs.Decimal.{digit, value_from}
use Rattle.text_lines.specs.declared.Line.{Line}
use Rattle.text_lines.specs.Lines.{begins, line_of}
use Rattle.calendar.specs.declared.Day.{Day}
use Rattle.calendar.specs.Calendar.{real_day}

-- the byte of a number's last digit
abbrev pub last_digit : ℕ → ℕ
last_digit n = digit (n % 10)

abbrev pub hyphen : ℕ
hyphen = 45

-- what stands behind the name: the ten characters of a day, and byte 10
unfoldable pub day_text : Day → List ℕ
day_text d =
    last_digit (d.year / 1000) ∷ last_digit (d.year / 100) ∷ last_digit (d.year / 10) ∷ last_digit d.year
    ∷ hyphen ∷ last_digit (d.month / 10) ∷ last_digit d.month
    ∷ hyphen ∷ last_digit (d.day / 10) ∷ last_digit d.day ∷ 10 ∷ []

-- the line of a name and a day
abbrev pub day_line_text : List ℕ → Day → List ℕ
day_line_text name d = name ++ day_text d

-- the numbers that stand where a day's digits stand
unfoldable pub day_in : List ℕ → Day
day_in text = record { year = value_from 0 (take 4 text); month = value_from 0 (take 2 (drop 5 text)); day = value_from 0 (take 2 (drop 8 text)) }

-- a day and byte 10 at the start of a text, which begins at place `at`: the real day whose text stands there
unfoldable pub day_at : ℕ → List ℕ → Option (Line Day)
day_at at text = let d = day_in text in cond (real_day d && begins (day_text d) text) (Some (line_of d (at + length (day_text d)))) None

-- the line at place `at`
unfoldable pub day_line : List ℕ → List ℕ → ℕ → Option (Line Day)
day_line name text at = cond (begins name (drop at text)) (day_at (at + length name) (drop (at + length name) text)) None
