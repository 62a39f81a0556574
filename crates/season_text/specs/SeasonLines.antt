-- The lines of a catalogue's season, `open=` and `close=` (document 02, item 1): both or neither, in this order, written and read at a place of a text.
use Rattle.std.specs.Prelude.{ℕ, Bool, cond, ◌&&◌, ◌||◌, List, [], ◌++◌, drop, Option, Some}
use Rattle.lists.specs.Ascii.{ascii}
use Rattle.text_lines.specs.Lines.{begins, on_line}
use Rattle.calendar.specs.declared.Day.{Day}
use Rattle.calendar.specs.Calendar.{real_day, no_day, undated}
use Rattle.season_text.specs.declared.Season.{Season}
use Rattle.season_text.specs.DayLines.{day_line_text, day_line}

abbrev pub open_name : List ℕ
open_name = ascii "open="

abbrev pub close_name : List ℕ
close_name = ascii "close="

-- days that a text can hold: none, or two real ones, in any order
unfoldable pub in_form : Day → Day → Bool
in_form opening closing = undated opening closing || real_day opening && real_day closing

-- the two lines; without dates, none
unfoldable pub season_text : Day → Day → List ℕ
season_text opening closing = cond (undated opening closing) [] (day_line_text open_name opening ++ day_line_text close_name closing)

-- a line of one of the two names begins here
unfoldable pub date_begins : List ℕ → Bool
date_begins rest = begins open_name rest || begins close_name rest

-- two dates, and the place behind them
abbrev pub season_of : Day → Day → ℕ → Season
season_of opening closing next = record { opening = opening; closing = closing; next = next }

-- The two lines at place `at`. Where a line of neither name begins, there are none; a lone line, or the second before the first, is out of form
unfoldable pub season_lines : List ℕ → ℕ → Option Season
season_lines text at =
    cond (date_begins (drop at text))
    (on_line (day_line open_name text at) λ opening a. on_line (day_line close_name text a) λ closing b. Some (season_of opening closing b))
    (Some (season_of no_day no_day at))

-- what stands behind the lines of two dates goes on with them: there are none, and one begins
abbrev pub dates_go_on : Day → Day → List ℕ → Bool
dates_go_on opening closing rest = undated opening closing && date_begins rest
