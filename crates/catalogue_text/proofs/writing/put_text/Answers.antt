-- `catalogue_text::writing::put_text` meets its contract: the lengths are written behind the other lines.
use mathlib.Core.Path.{◌≡◌, ◌∙◌}
use native.Mathlib.Omega.{arith}
use lib.ListN.{length, length-append}
use Rattle.lists.proofs.Puts.{put_next}
use Rattle.length_text.specs.LengthLines.{length_text}
use Rattle.catalogue_text.specs.Text.{head_text, own_numbers, text_of}
use Rattle.catalogue_text.proofs.writing.put_text.Goals as goal

pub put_head-g-requires : goal.put_head-g-requires
unfolding text_of
put_head-g-requires c = let value = c.args.c in
    omega (arith, c.requires, length-append (head_text value) (length_text (own_numbers value)))

pub put_lengths-requires : goal.put_lengths-requires
unfolding text_of
put_lengths-requires c = let value = c.args.c in
    let head = c.put_head-g in
    omega (arith, c.requires, length-append (head_text value) (length_text (own_numbers value)), c.put_head-g.ensures.value, c.put_head-g.auto.out)

pub returns : goal.returns
unfolding text_of
returns c = let last = c.put_lengths in
    let head = c.put_head-g in
    let a = c.args in
    let lengths = length_text (own_numbers a.c) in
    let start : c.put_head-g.result ≡ length (head_text a.c) = c.put_head-g.ensures.value in record {
      value = omega (arith, c.put_lengths.ensures.value, length-append (head_text a.c) lengths);
      out_after = c.put_lengths.ensures.out_after
          ∙ put_next 0 c.put_head-g.result (head_text a.c) lengths a.out.now c.put_head-g.new.out (omega arith) (omega arith) c.put_head-g.ensures.out_after;
    }
