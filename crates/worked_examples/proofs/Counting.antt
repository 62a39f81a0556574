-- Meters by computation (document 02, item 5): a fetch in which a query is issued twice and three calls are refused (`metered-run`), and a session near the
-- end of a meter (`one_more`, `to_the_end`, `full`). Queries for three messages have three bytes, of which 4,294,967,295 is a multiple.
use mathlib.Core.Path.{◌≡◌, refl}
use mathlib.Core.Bool.{true}
use mathlib.Core.List.{List, [], ◌∷◌, map, flat_map}
use Prim.Native.Nat.{ℕ}
use lib.ListN.{set}
use Rattle.lists.specs.Below.{all_below}
use Rattle.lists.specs.Ranges.{range, every}
use Rattle.refusal.specs.Verdicts.{Verdict, accepted}
use Rattle.refusal.specs.Chain.{refused}
use Rattle.refusal.specs.Foremost.{foremost}
use Rattle.parameters.specs.Bounds.{short_fits}
use Rattle.parameters.specs.Measures.{short_sizes}
use Rattle.calendar.specs.Calendar.{no_day, is_none, undated}
use Rattle.lengths.specs.Lengths.{no_lengths, lengths_fit}
use Rattle.catalogue.specs.declared.Code.TheVariants.{Short}
use Rattle.catalogue.specs.Catalogue.{dates_fit, sizes_of, catalogue_verdict}
use Rattle.short_scheme.specs.Short.{digit_sum, short_query, short_answer_length}
use Rattle.codes.specs.Codes.{scheme_of}
use Rattle.session_parts.specs.Marks.{no_marks, marks_good}
use Rattle.session_parts.specs.Meters.{no_bytes, meters_good}
use Rattle.session_parts.specs.Places.{padded_key}
use Rattle.session.specs.declared.Session.{Session}
use Rattle.session.specs.Calls.{begin_verdict, begin, issue_verdict, issue, take_verdict, take_answer}
use Rattle.fetches.specs.Fetches.{issuing, taking, Fetch, Made, history}
use Rattle.fetches.specs.Metered.{Meter, meters_of}
use Rattle.worked_examples.specs.Cards.{cat}

-- server 0 is asked twice, and sends nothing, since its row is zeros; server 1 is asked into a buffer that is too short, then into one that is longer than
-- the query; an answer of another length and a second answer are not taken
abbrev calls-made : Fetch
calls-made = record {
  wanted = 0;
  key = 0 ∷ [];
  answers = 7 ∷ 7 ∷ [];
  calls = issuing 0 no_day (9 ∷ 9 ∷ []) no_day [] ∷ issuing 1 no_day (9 ∷ []) no_day [] ∷ issuing 1 no_day (9 ∷ 9 ∷ 9 ∷ []) no_day []
      ∷ issuing 0 no_day (9 ∷ 9 ∷ []) no_day [] ∷ taking 0 (7 ∷ []) ∷ taking 0 [] ∷ taking 1 (90 ∷ []) ∷ taking 1 (90 ∷ []) ∷ [];
}

abbrev says : Made → Verdict
says made = made.verdict

-- the verdicts, and the meters of servers 0 and 1 and of a number past them
pub record Counted (f : Fetch) (verdicts : List Verdict) (meters : List Meter) : Type 0 where
  pub said : map says (history scheme_of (cat Short 2 2 1) f) ≡ verdicts
  pub counts : map (λ (n : ℕ). meters_of scheme_of (cat Short 2 2 1) n f) (0 ∷ 1 ∷ 2 ∷ []) ≡ meters

pub metered-run : Counted calls-made
    (accepted ∷ refused 9 ∷ accepted ∷ accepted ∷ refused 10 ∷ accepted ∷ accepted ∷ refused 11 ∷ [])
    (record { sent = 4; got = 0 } ∷ record { sent = 2; got = 1 } ∷ record { sent = 0; got = 0 } ∷ [])
unfolding foremost all_below range every short_fits short_sizes is_none undated dates_fit no_lengths lengths_fit sizes_of catalogue_verdict digit_sum short_query
    short_answer_length scheme_of begin_verdict begin issue_verdict issue take_verdict take_answer no_marks marks_good no_bytes meters_good flat_map
metered-run = record { said = refl; counts = refl }

-- server 1 was asked, and its meter says so many bytes
abbrev metering : ℕ → Session
metering bytes = record {
  catalogue = cat Short 2 3 1;
  wanted = 0;
  key = padded_key (0 ∷ 0 ∷ []);
  issued = set no_marks 1 true;
  taken = no_marks;
  meters = record { sent = set no_bytes 1 bytes; got = no_bytes };
}

-- one query more, to server 1 and to server 0
pub record OneMore (bytes : ℕ) (to-1 to-0 : Verdict) : Type 0 where
  pub server-1 : issue_verdict scheme_of (metering bytes) no_day 1 3 ≡ to-1
  pub server-0 : issue_verdict scheme_of (metering bytes) no_day 0 3 ≡ to-0

pub one_more : OneMore 4294967289 accepted accepted
unfolding foremost all_below range every short_fits short_sizes is_none undated dates_fit no_lengths lengths_fit sizes_of catalogue_verdict digit_sum short_query
    short_answer_length scheme_of issue_verdict no_marks marks_good no_bytes meters_good flat_map
one_more = record { server-1 = refl; server-0 = refl }

-- the meter comes to 4,294,967,295
pub to_the_end : OneMore 4294967292 accepted accepted
unfolding foremost all_below range every short_fits short_sizes is_none undated dates_fit no_lengths lengths_fit sizes_of catalogue_verdict digit_sum short_query
    short_answer_length scheme_of issue_verdict no_marks marks_good no_bytes meters_good flat_map
to_the_end = record { server-1 = refl; server-0 = refl }

-- and is full; server 0's is not
pub full : OneMore 4294967295 (refused 16) accepted
unfolding foremost all_below range every short_fits short_sizes is_none undated dates_fit no_lengths lengths_fit sizes_of catalogue_verdict digit_sum short_query
    short_answer_length scheme_of issue_verdict no_marks marks_good no_bytes meters_good flat_map
full = record { server-1 = refl; server-0 = refl }

-- a byte less is no whole number of queries: 11, and not 16, whichever server is asked
pub no-whole-queries : OneMore 4294967294 (refused 11) (refused 11)
unfolding foremost all_below range every short_fits short_sizes is_none undated dates_fit no_lengths lengths_fit sizes_of catalogue_verdict digit_sum short_query
    short_answer_length scheme_of issue_verdict no_marks marks_good no_bytes meters_good flat_map
no-whole-queries = record { server-1 = refl; server-0 = refl }
