-- Every card with a turn holds (`turned-hold`): one theorem, which computes from the definitions that the contracts cite.
use mathlib.Core.Path.{refl}
use mathlib.Core.List.{flat_map}
use Rattle.lists.specs.Below.{all_below}
use Rattle.lists.specs.Ranges.{range, every}
use Rattle.lists.specs.Sums.{All, all_nil, all_cons}
use Rattle.refusal.specs.Foremost.{foremost}
use Rattle.parameters.specs.Bounds.{short_fits}
use Rattle.parameters.specs.Measures.{short_sizes, turn_sizes}
use Rattle.symbol.specs.Sum.{total_from, total}
use Rattle.symbol.specs.Xor.{xor_bytes}
use Rattle.scheme.specs.Scheme.{honest_answers}
use Rattle.calendar.specs.Calendar.{is_none, undated}
use Rattle.lengths.specs.Lengths.{no_lengths, lengths_fit}
use Rattle.catalogue.specs.Catalogue.{dates_fit, sizes_of, catalogue_verdict}
use Rattle.text_lines.specs.Decimal.{decimal_in, decimal, digit_count, value_from}
use Rattle.text_lines.specs.Lines.{begins, is_numeral, number_at, number_line}
use Rattle.season_text.specs.SeasonLines.{date_begins, season_lines}
use Rattle.length_text.specs.LengthLines.{length_lines}
use Rattle.catalogue_text.specs.Parsing.{code_line, sum_line, first_lines, catalogue_lines}
use Rattle.short_scheme.specs.Short.{digit_sum, short_query, short_answer_length, named, short_answer, or_zeros, recovered, short_recover}
use Rattle.turn_code.specs.Turn.{turn_query, turn_admits, by_part, turn_recover}
use Rattle.codes.specs.Codes.{scheme_of}
use Rattle.server.specs.Answering.{answer_verdict, answering}
use Rattle.session.specs.Calls.{begin_verdict}
use Rattle.number_lists.specs.NumberLists.{after_spaces, spaced, numeral_from, numbers_from, numbers_at}
use Rattle.printing.specs.Input.{key_line, lines_ask, input_asks}
use Rattle.printing.specs.Output.{query_line, asked_verdict, query_lines, answer_to, printed}
use Rattle.worked_examples.specs.Cards.{Holds}
use Rattle.worked_examples.specs.Turned.{turned}

pub turned-hold : All Holds turned
unfolding Holds turned flat_map all_below range every foremost short_fits short_sizes turn_sizes total_from total xor_bytes honest_answers is_none undated
    dates_fit no_lengths lengths_fit sizes_of catalogue_verdict decimal_in decimal digit_count value_from begins is_numeral number_at number_line code_line
    sum_line date_begins season_lines first_lines length_lines catalogue_lines digit_sum short_query short_answer_length named short_answer or_zeros recovered
    short_recover turn_query turn_admits by_part turn_recover scheme_of answer_verdict answering begin_verdict after_spaces spaced numeral_from numbers_from
    numbers_at key_line lines_ask input_asks query_line asked_verdict query_lines answer_to printed
turned-hold =
    all_cons refl (all_cons refl (all_cons refl (all_cons refl (all_cons refl (all_cons refl (all_cons refl (all_cons refl (all_cons refl (all_cons refl
    all_nil)))))))))
