-- `catalogue_text::writing::text_length` meets its contract: the lengths are behind the other lines.
use native.Mathlib.Omega.{arith}
use lib.ListN.{length-append}
use Rattle.length_text.specs.LengthLines.{length_text}
use Rattle.catalogue_text.specs.Text.{head_text, own_numbers, text_of}
use Rattle.catalogue_text.proofs.writing.text_length.Goals as goal

pub returns : goal.returns
unfolding text_of
returns c = let value = c.args.c in
    omega (arith, length-append (head_text value) (length_text (own_numbers value)), c.head_length.ensures.value, c.lengths_length.ensures.value)
