-- Whole fetches run by computation, through the functions that the claim is about: bench cards B2 and B3 of document 01 (`b2`, `b3`), B3
-- with a turn (`b3-turned`), a fetch from servers that add (`added`), B2 in a season and out of it (`in-season`, `out-of-season`), and that from servers
-- that add of a message which ends inside a word (`cut_short`). Each server is shown its query and writes its answer; the message that is wanted stands
-- in the buffer at the end, but out of season.
use mathlib.Core.Path.{◌≡◌, refl}
use mathlib.Core.Bool.{true}
use mathlib.Core.List.{List, [], ◌∷◌, map, flat_map}
use Prim.Native.Nat.{ℕ}
use Rattle.lists.specs.Below.{all_below}
use Rattle.lists.specs.Distinct.{stands}
use Rattle.lists.specs.Padded.{padded}
use Rattle.lists.specs.Ranges.{range, every}
use Rattle.std.specs.Prelude.{Ok, Err}
use Rattle.refusal.specs.Numbers.{refusal_of}
use Rattle.refusal.specs.Foremost.{foremost}
use Rattle.parameters.specs.Bounds.{short_fits}
use Rattle.parameters.specs.Measures.{short_sizes, turn_sizes}
use Rattle.symbol.specs.Sum.{total, total_from}
use Rattle.symbol.specs.Xor.{xor_bytes}
use Rattle.symbol.specs.Words.{on_words}
use Rattle.symbol.specs.declared.Operation.TheVariants.{ExclusiveOr, Addition}
use Rattle.calendar.specs.declared.Day.{Day}
use Rattle.calendar.specs.Calendar.{leap_year, days_in, real_day, before, in_season, no_day, is_none, undated}
use Rattle.scheme.specs.Scheme.{answers_in}
use Rattle.lengths.specs.Lengths.{length_places, no_lengths, lengths_fit, length_of}
use Rattle.catalogue.specs.declared.Catalogue.{Catalogue}
use Rattle.catalogue.specs.declared.Code.TheVariants.{Short, Turn}
use Rattle.catalogue.specs.Catalogue.{dates_fit, sizes_of, catalogue_verdict}
use Rattle.short_scheme.specs.Short.{digit_sum, short_query, short_admits, short_answer_length, named, short_answer, or_zeros, recovered, short_recover}
use Rattle.turn_code.specs.Turn.{turn_query, turn_admits, by_part, turn_recover}
use Rattle.codes.specs.Codes.{scheme_of}
use Rattle.server.specs.Answering.{answer_verdict, answering}
use Rattle.session.specs.Calls.{begin_verdict, begin, issue_verdict, issue, take_verdict, take_answer, recover_verdict, recover}
use Rattle.session_parts.specs.Marks.{no_marks, marks_good, all_taken}
use Rattle.session_parts.specs.Meters.{no_bytes, meters_good}
use Rattle.fetches.specs.Fetches.{issuing, taking, recovering, Fetch, Made, history}
use Rattle.fetches.specs.Shown.{Shown, refused, asked, shown_to}

-- two servers, two messages of one symbol of one byte: 5A and C3 (hex)
abbrev small : Catalogue
small = record { code = Short; sum = ExclusiveOr; opening = no_day; closing = no_day; lengths = no_lengths; servers = 2; messages = 2; symbol = 1 }

abbrev store : List ℕ
store = 90 ∷ 195 ∷ []

-- message 0 is fetched: both servers are asked, on these days, their answers taken, and the message recovered into a buffer of two bytes
abbrev fetch : (asked-0 answered-0 asked-1 answered-1 : Day) → ℕ → List ℕ → List ℕ → Fetch
fetch asked-0 answered-0 asked-1 answered-1 digit first second = record {
  wanted = 0;
  key = digit ∷ [];
  answers = 7 ∷ 7 ∷ [];
  calls = issuing 0 asked-0 (0 ∷ 0 ∷ []) answered-0 (0 ∷ []) ∷ issuing 1 asked-1 (0 ∷ 0 ∷ []) answered-1 (0 ∷ [])
      ∷ taking 0 first ∷ taking 1 second ∷ recovering (9 ∷ 9 ∷ []) ∷ [];
}

-- on no day, which is not looked at where there are no dates
abbrev any_day : ℕ → List ℕ → List ℕ → Fetch
any_day = fetch no_day no_day no_day no_day

-- what servers 0 and 1 are shown, and how the calls leave their own buffers
pub record Run (c : Catalogue) (store : List ℕ) (f : Fetch) (to-0 to-1 : List Shown) (left : List (List ℕ)) : Type 0 where
  pub server-0 : shown_to scheme_of c store 0 (history scheme_of c f) ≡ to-0
  pub server-1 : shown_to scheme_of c store 1 (history scheme_of c f) ≡ to-1
  pub buffers : map (λ (made : Made). made.left) (history scheme_of c f) ≡ left

-- B2: key 1
pub b2 : Run small store (any_day 1 (153 ∷ []) (195 ∷ []))
    (asked (1 ∷ 1 ∷ []) (Ok 1) (153 ∷ []) ∷ [])
    (asked (0 ∷ 1 ∷ []) (Ok 1) (195 ∷ []) ∷ [])
    ((1 ∷ 1 ∷ []) ∷ (0 ∷ 1 ∷ []) ∷ [] ∷ [] ∷ (90 ∷ 9 ∷ []) ∷ [])
unfolding foremost all_below range every short_fits short_sizes
    total total_from xor_bytes answers_in is_none undated dates_fit no_lengths lengths_fit length_of sizes_of catalogue_verdict digit_sum short_query
    short_admits short_answer_length named short_answer or_zeros recovered short_recover scheme_of
    answer_verdict answering begin_verdict begin issue_verdict issue take_verdict take_answer recover_verdict recover
    no_marks marks_good no_bytes meters_good all_taken flat_map
b2 = record { server-0 = refl; server-1 = refl; buffers = refl }

-- B3: key 0. Server 0 gets the row of zeros and answers with no bytes
pub b3 : Run small store (any_day 0 [] (90 ∷ []))
    (asked (0 ∷ 0 ∷ []) (Ok 0) [] ∷ [])
    (asked (1 ∷ 0 ∷ []) (Ok 1) (90 ∷ []) ∷ [])
    ((0 ∷ 0 ∷ []) ∷ (1 ∷ 0 ∷ []) ∷ [] ∷ [] ∷ (90 ∷ 9 ∷ []) ∷ [])
unfolding foremost all_below range every short_fits short_sizes
    total total_from xor_bytes answers_in is_none undated dates_fit no_lengths lengths_fit length_of sizes_of catalogue_verdict digit_sum short_query
    short_admits short_answer_length named short_answer or_zeros recovered short_recover scheme_of
    answer_verdict answering begin_verdict begin issue_verdict issue take_verdict take_answer recover_verdict recover
    no_marks marks_good no_bytes meters_good all_taken flat_map
b3 = record { server-0 = refl; server-1 = refl; buffers = refl }

abbrev turning : Catalogue
turning = record { code = Turn; sum = ExclusiveOr; opening = no_day; closing = no_day; lengths = no_lengths; servers = 2; messages = 2; symbol = 1 }

-- B3 with turn 1: it is server 1 that gets the row of zeros and answers with no bytes
pub b3-turned : Run turning store (record {
  wanted = 0;
  key = 0 ∷ 1 ∷ [];
  answers = 7 ∷ 7 ∷ [];
  calls = issuing 0 no_day (0 ∷ 0 ∷ []) no_day (0 ∷ []) ∷ issuing 1 no_day (0 ∷ 0 ∷ []) no_day (0 ∷ []) ∷ taking 0 (90 ∷ []) ∷ taking 1 []
      ∷ recovering (9 ∷ 9 ∷ []) ∷ [];
})
    (asked (1 ∷ 0 ∷ []) (Ok 1) (90 ∷ []) ∷ [])
    (asked (0 ∷ 0 ∷ []) (Ok 0) [] ∷ [])
    ((1 ∷ 0 ∷ []) ∷ (0 ∷ 0 ∷ []) ∷ [] ∷ [] ∷ (90 ∷ 9 ∷ []) ∷ [])
unfolding foremost all_below range every short_fits short_sizes turn_sizes
    total total_from xor_bytes answers_in is_none undated dates_fit no_lengths lengths_fit length_of sizes_of catalogue_verdict digit_sum short_query
    short_answer_length named short_answer or_zeros recovered short_recover turn_query turn_admits by_part turn_recover scheme_of
    answer_verdict answering begin_verdict begin issue_verdict issue take_verdict take_answer recover_verdict recover
    no_marks marks_good no_bytes meters_good all_taken flat_map
b3-turned = record { server-0 = refl; server-1 = refl; buffers = refl }

-- two servers that add, two messages of one symbol of two bytes: the words 255 and 1
abbrev adding : Catalogue
adding = record { code = Short; sum = Addition; opening = no_day; closing = no_day; lengths = no_lengths; servers = 2; messages = 2; symbol = 2 }

abbrev words : List ℕ
words = 255 ∷ 0 ∷ 1 ∷ 0 ∷ []

-- message 0, key 1, as in B2: the answers are 256, whose high byte is the carry, and 1, and less 1 it is 255 again
pub added : Run adding words (record {
  wanted = 0;
  key = 1 ∷ [];
  answers = 7 ∷ 7 ∷ 7 ∷ 7 ∷ [];
  calls = issuing 0 no_day (0 ∷ 0 ∷ []) no_day (0 ∷ 0 ∷ []) ∷ issuing 1 no_day (0 ∷ 0 ∷ []) no_day (0 ∷ 0 ∷ []) ∷ taking 0 (0 ∷ 1 ∷ []) ∷ taking 1 (1 ∷ 0 ∷ [])
      ∷ recovering (9 ∷ 9 ∷ 9 ∷ []) ∷ [];
})
    (asked (1 ∷ 1 ∷ []) (Ok 2) (0 ∷ 1 ∷ []) ∷ [])
    (asked (0 ∷ 1 ∷ []) (Ok 2) (1 ∷ 0 ∷ []) ∷ [])
    ((1 ∷ 1 ∷ []) ∷ (0 ∷ 1 ∷ []) ∷ [] ∷ [] ∷ (255 ∷ 0 ∷ 9 ∷ []) ∷ [])
unfolding foremost all_below range every short_fits short_sizes
    total total_from on_words answers_in is_none undated dates_fit no_lengths lengths_fit length_of sizes_of catalogue_verdict digit_sum short_query
    short_admits short_answer_length named short_answer or_zeros recovered short_recover scheme_of
    answer_verdict answering begin_verdict begin issue_verdict issue take_verdict take_answer recover_verdict recover
    no_marks marks_good no_bytes meters_good all_taken flat_map
added = record { server-0 = refl; server-1 = refl; buffers = refl }

-- ---- a season of two days, from the leap day of 2096 on

abbrev on : ℕ → ℕ → ℕ → Day
on year month day = record { year = year; month = month; day = day }

abbrev seasonal : Catalogue
seasonal = record {
  code = Short;
  sum = ExclusiveOr;
  opening = on 2096 2 29;
  closing = on 2096 3 2;
  lengths = no_lengths;
  servers = 2;
  messages = 2;
  symbol = 1;
}

-- B2 in season: server 0 is asked on the opening day and answers on the last day, server 1 the other way round
pub in-season : Run seasonal store (fetch (on 2096 2 29) (on 2096 3 1) (on 2096 3 1) (on 2096 2 29) 1 (153 ∷ []) (195 ∷ []))
    (asked (1 ∷ 1 ∷ []) (Ok 1) (153 ∷ []) ∷ [])
    (asked (0 ∷ 1 ∷ []) (Ok 1) (195 ∷ []) ∷ [])
    ((1 ∷ 1 ∷ []) ∷ (0 ∷ 1 ∷ []) ∷ [] ∷ [] ∷ (90 ∷ 9 ∷ []) ∷ [])
unfolding stands foremost all_below range every short_fits short_sizes
    total total_from xor_bytes answers_in leap_year days_in real_day before in_season is_none undated dates_fit
    no_lengths lengths_fit length_of sizes_of catalogue_verdict digit_sum short_query
    short_admits short_answer_length named short_answer or_zeros recovered short_recover scheme_of
    answer_verdict answering begin_verdict begin issue_verdict issue take_verdict take_answer recover_verdict recover
    no_marks marks_good no_bytes meters_good all_taken flat_map
in-season = record { server-0 = refl; server-1 = refl; buffers = refl }

-- the same fetch where server 0 is asked on the last day and answers on the closing day, and server 1 is asked on a day that is not real: server 0
-- refuses by 14, the second issue is refused by 13, and nothing is recovered
pub out-of-season : Run seasonal store (fetch (on 2096 3 1) (on 2096 3 2) (on 2096 2 30) (on 2096 2 29) 1 (153 ∷ []) (195 ∷ []))
    (asked (1 ∷ 1 ∷ []) (Err (refusal_of 14)) [] ∷ [])
    (refused (refusal_of 13) ∷ [])
    ((1 ∷ 1 ∷ []) ∷ (0 ∷ 0 ∷ []) ∷ [] ∷ [] ∷ (9 ∷ 9 ∷ []) ∷ [])
unfolding stands foremost all_below range every short_fits short_sizes
    total total_from xor_bytes answers_in leap_year days_in real_day before in_season is_none undated dates_fit
    no_lengths lengths_fit length_of sizes_of catalogue_verdict digit_sum short_query
    short_admits short_answer_length named short_answer or_zeros recovered short_recover scheme_of
    answer_verdict answering begin_verdict begin issue_verdict issue take_verdict take_answer recover_verdict recover
    no_marks marks_good no_bytes meters_good all_taken flat_map
out-of-season = record { server-0 = refl; server-1 = refl; buffers = refl }

-- ---- where a message ends

-- the words 255 and 1 again: of the first message one byte counts, of the second both
abbrev measured : Catalogue
measured = record {
  code = Short;
  sum = Addition;
  opening = no_day;
  closing = no_day;
  lengths = record { given = true; places = padded length_places (1 ∷ 2 ∷ []) };
  servers = 2;
  messages = 2;
  symbol = 2;
}

-- the servers are shown and send what they are without lengths; the message is recovered into a buffer of one byte, and a longer one stays past it
pub cut_short : Run measured words (record {
  wanted = 0;
  key = 1 ∷ [];
  answers = 7 ∷ 7 ∷ 7 ∷ 7 ∷ [];
  calls = issuing 0 no_day (0 ∷ 0 ∷ []) no_day (0 ∷ 0 ∷ []) ∷ issuing 1 no_day (0 ∷ 0 ∷ []) no_day (0 ∷ 0 ∷ []) ∷ taking 0 (0 ∷ 1 ∷ []) ∷ taking 1 (1 ∷ 0 ∷ [])
      ∷ recovering (9 ∷ []) ∷ recovering (9 ∷ 9 ∷ 9 ∷ []) ∷ [];
})
    (asked (1 ∷ 1 ∷ []) (Ok 2) (0 ∷ 1 ∷ []) ∷ [])
    (asked (0 ∷ 1 ∷ []) (Ok 2) (1 ∷ 0 ∷ []) ∷ [])
    ((1 ∷ 1 ∷ []) ∷ (0 ∷ 1 ∷ []) ∷ [] ∷ [] ∷ (255 ∷ []) ∷ (255 ∷ 9 ∷ 9 ∷ []) ∷ [])
unfolding foremost all_below range every short_fits short_sizes
    total total_from on_words answers_in is_none undated dates_fit lengths_fit length_of sizes_of catalogue_verdict digit_sum short_query
    short_admits short_answer_length named short_answer or_zeros recovered short_recover scheme_of
    answer_verdict answering begin_verdict begin issue_verdict issue take_verdict take_answer recover_verdict recover
    no_marks marks_good no_bytes meters_good all_taken flat_map
cut_short = record { server-0 = refl; server-1 = refl; buffers = refl }
