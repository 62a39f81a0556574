-- Every example of the round code holds (`rounds-hold`), and Table IV's first fetch runs through the functions that the claim is about (`table-four`): computed
-- from the definitions that the contracts cite.
use mathlib.Core.Path.{refl}
use mathlib.Core.List.{[], ◌∷◌, flat_map}
use Rattle.lists.specs.Below.{all_below}
use Rattle.lists.specs.Distinct.{stands, distinct, is_permutation}
use Rattle.lists.specs.Ranges.{range, every}
use Rattle.lists.specs.Sums.{sum, All, all_nil, all_cons}
use Rattle.std.specs.Prelude.{Ok}
use Rattle.refusal.specs.Foremost.{foremost}
use Rattle.parameters.specs.Bounds.{round_fits}
use Rattle.parameters.specs.Measures.{round_sizes}
use Rattle.symbol.specs.Sum.{total_from, total}
use Rattle.symbol.specs.Xor.{xor_bytes}
use Rattle.scheme.specs.Scheme.{honest_answers, answers_in}
use Rattle.calendar.specs.Calendar.{no_day, is_none, undated}
use Rattle.lengths.specs.Lengths.{no_lengths, lengths_fit, length_of}
use Rattle.catalogue.specs.declared.Code.TheVariants.{Round}
use Rattle.catalogue.specs.Catalogue.{dates_fit, sizes_of, catalogue_verdict}
use Rattle.text_lines.specs.Decimal.{decimal_in, decimal, digit_count, value_from}
use Rattle.text_lines.specs.Lines.{begins, is_numeral, number_at, number_line}
use Rattle.season_text.specs.SeasonLines.{date_begins, season_lines}
use Rattle.length_text.specs.LengthLines.{length_lines}
use Rattle.catalogue_text.specs.Parsing.{code_line, sum_line, first_lines, catalogue_lines}
use Rattle.short_scheme.specs.Short.{digit_sum, short_query, short_admits, short_answer_length, named, or_zeros, recovered, short_recover}
use Rattle.round_scheme.specs.Round.{digits, number, short_key, round_query, row, round_admits}
use Rattle.round_scheme.specs.Round.{row_length, length_before, row_answer, round_answer, answers_to, round_recover}
use Rattle.codes.specs.Codes.{scheme_of}
use Rattle.server.specs.Answering.{answer_verdict, answering}
use Rattle.session.specs.Calls.{begin_verdict, begin, issue_verdict, issue, take_verdict, take_answer, recover_verdict, recover}
use Rattle.session_parts.specs.Marks.{no_marks, marks_good, all_taken}
use Rattle.session_parts.specs.Meters.{no_bytes, meters_good}
use Rattle.number_lists.specs.NumberLists.{after_spaces, spaced, numeral_from, numbers_from, numbers_at}
use Rattle.printing.specs.Input.{key_line, lines_ask, input_asks}
use Rattle.printing.specs.Output.{query_line, asked_verdict, query_lines, answer_to, printed}
use Rattle.fetches.specs.Fetches.{issuing, taking, recovering}
use Rattle.fetches.specs.Shown.{asked}
use Rattle.worked_examples.specs.Cards.{Holds, cat}
use Rattle.worked_examples.specs.Rounds.{letters, rounds}
use Rattle.worked_examples.proofs.Runs.{Run}

pub rounds-hold : All Holds rounds
unfolding Holds rounds flat_map all_below stands distinct is_permutation range every sum foremost round_fits round_sizes total_from total xor_bytes honest_answers
    is_none undated dates_fit no_lengths lengths_fit sizes_of catalogue_verdict decimal_in decimal digit_count value_from begins is_numeral number_at number_line
    code_line sum_line date_begins season_lines first_lines length_lines catalogue_lines digit_sum short_query short_admits short_answer_length named or_zeros recovered
    short_recover digits number short_key round_query row round_admits row_length length_before row_answer round_answer answers_to round_recover scheme_of answer_verdict
    answering begin_verdict after_spaces spaced numeral_from numbers_from numbers_at key_line lines_ask input_asks query_line asked_verdict query_lines answer_to printed
rounds-hold =
    all_cons refl (all_cons refl (all_cons refl (all_cons refl (all_cons refl (all_cons refl (all_cons refl (all_cons refl (all_cons refl (all_cons refl
    (all_cons refl (all_cons refl (all_cons refl (all_cons refl (all_cons refl (all_cons refl (all_cons refl (all_cons refl (all_cons refl
    all_nil))))))))))))))))))

-- F = (01), message A: server 0 answers one row of two
pub table-four : Run (cat Round 2 2 1) letters (record {
  wanted = 0;
  key = 0 ∷ 1 ∷ [];
  answers = 7 ∷ 7 ∷ 7 ∷ 7 ∷ [];
  calls = issuing 0 no_day (9 ∷ 9 ∷ 9 ∷ 9 ∷ []) no_day (9 ∷ 9 ∷ []) ∷ issuing 1 no_day (9 ∷ 9 ∷ 9 ∷ 9 ∷ []) no_day (9 ∷ 9 ∷ []) ∷ taking 0 (10 ∷ [])
      ∷ taking 1 (1 ∷ 8 ∷ []) ∷ recovering (9 ∷ 9 ∷ 9 ∷ []) ∷ [];
})
    (asked (0 ∷ 0 ∷ 1 ∷ 1 ∷ []) (Ok 1) (10 ∷ []) ∷ [])
    (asked (1 ∷ 0 ∷ 0 ∷ 1 ∷ []) (Ok 2) (1 ∷ 8 ∷ []) ∷ [])
    ((0 ∷ 0 ∷ 1 ∷ 1 ∷ []) ∷ (1 ∷ 0 ∷ 0 ∷ 1 ∷ []) ∷ [] ∷ [] ∷ (1 ∷ 2 ∷ 9 ∷ []) ∷ [])
unfolding foremost all_below stands distinct is_permutation range every sum round_fits round_sizes total total_from xor_bytes answers_in is_none undated dates_fit
    no_lengths lengths_fit length_of sizes_of catalogue_verdict digit_sum short_query short_admits short_answer_length named or_zeros recovered short_recover digits number
    short_key round_query row round_admits row_length length_before row_answer round_answer answers_to round_recover scheme_of answer_verdict answering begin_verdict begin
    issue_verdict issue take_verdict take_answer recover_verdict recover no_marks marks_good no_bytes meters_good all_taken flat_map
table-four = record { server-0 = refl; server-1 = refl; buffers = refl }
