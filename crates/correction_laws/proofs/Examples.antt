-- Some edits worked out. Where a symbol is named: short code (`short-places`), round code at server 0, whose row of zeros takes no bytes, and at another server
-- (`round-places`), even code, the query of bench card B7 (`even-places`). What an answer becomes: B2's by exclusive or, and words with a carry and a borrow
-- into the high byte of the word and no further (`some-moved`).
use mathlib.Core.Path.{◌≡◌, refl}
use mathlib.Core.List.{[], ◌∷◌, flat_map, zip, zip_with}
use Rattle.lists.specs.Below.{all_below}
use Rattle.lists.specs.Ranges.{range}
use Rattle.lists.specs.Sums.{bit, sum}
use Rattle.symbol.specs.Words.{on_words, words}
use Rattle.symbol.specs.Xor.{xor_bytes, xor}
use Rattle.round_scheme.specs.Round.{row}
use Rattle.even_places.specs.Rule.{ones_in, members, sets, layout}
use Rattle.std.specs.Prelude.{Some, None}
use Rattle.scheme.specs.Asked.{times_in, place_naming}
use Rattle.short_scheme.specs.Asked.{digit_cells, digit_rows}
use Rattle.round_scheme.specs.Asked.{block_rows}
use Rattle.even_scheme.specs.Asked.{set_rows, layout_rows}
use Rattle.correction.specs.Moved.{shift_of, moved}

-- N = 3, K = 3, symbols of 4 bytes: query 2 1 0
pub short-places : (place_naming 4 0 1 (digit_rows 0 (2 ∷ 1 ∷ 0 ∷ [])) ≡ Some 0) × (place_naming 4 0 0 (digit_rows 0 (2 ∷ 1 ∷ 0 ∷ [])) ≡ None)
    × (place_naming 4 2 0 (digit_rows 0 (2 ∷ 1 ∷ 0 ∷ [])) ≡ None) × (place_naming 4 0 0 (digit_rows 0 (0 ∷ 0 ∷ 0 ∷ [])) ≡ None)
unfolding place_naming times_in sum bit digit_cells digit_rows all_below
short-places = (refl, refl, refl, refl)

-- N = 2, K = 2, symbols of 4 bytes, server 0: the row of zeros for block 0. N = 3, K = 2, server 1: rows 1 0, 0 1, 2 2
pub round-places : (place_naming 4 1 1 (block_rows 2 2 (0 ∷ 0 ∷ 1 ∷ 1 ∷ [])) ≡ Some 0) × (place_naming 4 1 0 (block_rows 2 2 (0 ∷ 0 ∷ 1 ∷ 1 ∷ [])) ≡ None)
    × (place_naming 4 1 5 (block_rows 3 2 (1 ∷ 0 ∷ 0 ∷ 1 ∷ 2 ∷ 2 ∷ [])) ≡ Some 8)
    × (place_naming 4 1 1 (block_rows 3 2 (1 ∷ 0 ∷ 0 ∷ 1 ∷ 2 ∷ 2 ∷ [])) ≡ None)
unfolding place_naming times_in sum bit digit_cells digit_rows all_below block_rows row flat_map range
round-places = (refl, refl, refl, refl)

-- N = 2, K = 2, symbols of 1 byte: query 0 0 2 1, whose rows are over the sets of message 0, of message 1, of both
pub even-places : (place_naming 1 0 2 (layout_rows 2 2 (0 ∷ 0 ∷ 2 ∷ 1 ∷ [])) ≡ Some 2) × (place_naming 1 1 1 (layout_rows 2 2 (0 ∷ 0 ∷ 2 ∷ 1 ∷ [])) ≡ Some 2)
    × (place_naming 1 1 0 (layout_rows 2 2 (0 ∷ 0 ∷ 2 ∷ 1 ∷ [])) ≡ Some 1) × (place_naming 1 0 3 (layout_rows 2 2 (0 ∷ 0 ∷ 2 ∷ 1 ∷ [])) ≡ None)
unfolding place_naming times_in sum bit set_rows layout sets members ones_in zip zip_with flat_map range
even-places = (refl, refl, refl, refl)

-- B2's answer hex 99 after byte hex 5A became 0; a carry (0 to 1) and a borrow (1 to 0) at the low byte, and the high byte's wrap at 65,536
pub some-moved : (moved xor 1 (Some 0) (shift_of xor 1 0 0 0x5A) (0x99 ∷ []) ≡ 0xC3 ∷ [])
    × (moved words 4 (Some 4) (shift_of words 4 0 1 0) (9 ∷ 9 ∷ 9 ∷ 9 ∷ 255 ∷ 0 ∷ 7 ∷ 7 ∷ []) ≡ 9 ∷ 9 ∷ 9 ∷ 9 ∷ 0 ∷ 1 ∷ 7 ∷ 7 ∷ [])
    × (moved words 4 (Some 0) (shift_of words 4 2 0 1) (9 ∷ 9 ∷ 0 ∷ 0 ∷ 7 ∷ 7 ∷ 7 ∷ 7 ∷ []) ≡ 9 ∷ 9 ∷ 255 ∷ 255 ∷ 7 ∷ 7 ∷ 7 ∷ 7 ∷ [])
    × (moved words 4 (Some 0) (shift_of words 4 1 1 0) (255 ∷ 255 ∷ 5 ∷ 5 ∷ []) ≡ 255 ∷ 0 ∷ 5 ∷ 5 ∷ [])
unfolding moved xor_bytes on_words
some-moved = (refl, refl, refl, refl)
