-- `number_lists::put_after_space` meets its contract: the space and the digits are written side by side.
use mathlib.Core.Path.{◌∙◌}
use native.Mathlib.Omega.{arith}
use Rattle.lists.specs.Ascii.{ascii}
use Rattle.lists.proofs.Puts.{put_next}
use Rattle.text_lines.specs.Decimal.{decimal}
use Rattle.number_lists.proofs.Spaced.{byte-length}
use Rattle.number_lists.proofs.put_after_space.Goals as goal

pub put_decimal-requires : goal.put_decimal-requires
put_decimal-requires c = let s = byte-length c.args.n (omega arith) in omega arith

pub returns-clause-out_after : goal.returns-clause-out_after
returns-clause-out_after c =
    let a = c.args in
    let start = c.put_bytes-digits.ensures.value in
    c.put_decimal.ensures.out_after
    ∙ put_next a.at c.put_bytes-digits.result (ascii " ") (decimal a.n) a.out.now c.put_bytes-digits.new.out (omega arith) start c.put_bytes-digits.ensures.out_after
