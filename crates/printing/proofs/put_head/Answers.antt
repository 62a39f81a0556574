-- `printing::put_head` meets its contract: the three parts are written side by side.
use native.Mathlib.Omega.{arith}
use Rattle.lists.specs.Ascii.{ascii}
use Rattle.text_lines.specs.Decimal.{decimal}
use Rattle.text_lines.proofs.Decimal.{length_most}
use Rattle.lists.proofs.Puts.{put_three}
use Rattle.printing.proofs.Writing.{head-length}
use Rattle.printing.proofs.put_head.Goals as goal

pub put_decimal-name-requires : goal.put_decimal-name-requires
put_decimal-name-requires c = let s = length_most 1 c.args.server (omega arith) in
    let k = c.put_bytes-number.auto.out in
    let e = c.put_bytes-number.ensures.value in
    omega arith

pub put_bytes-requires : goal.put_bytes-requires
put_bytes-requires c = let s = length_most 1 c.args.server (omega arith) in
    let k = c.put_bytes-number.auto.out in
    let e = c.put_bytes-number.ensures.value in
    let l = c.put_decimal-name.auto.out in
    let f = c.put_decimal-name.ensures.value in
    omega arith

pub returns : goal.returns
returns c = let a = c.args in
    let first = c.put_bytes-number in
    let second = c.put_decimal-name in
    let third = c.put_bytes in
    let e = c.put_bytes-number.ensures.value in
    let f = c.put_decimal-name.ensures.value in
    let g = c.put_bytes.ensures.value in
    let l = head-length a.server in record {
      value = omega arith;
      out_after = put_three a.at (ascii "mirror=") (decimal a.server) (ascii " request=")
          a.out.now c.put_bytes-number.new.out c.put_decimal-name.new.out c.put_bytes.new.out
          c.put_bytes-number.result c.put_decimal-name.result (omega arith) e f
          c.put_bytes-number.ensures.out_after c.put_decimal-name.ensures.out_after c.put_bytes.ensures.out_after;
    }
