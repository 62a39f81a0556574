-- `printing::put_line` meets its contract: the head, the numbers and byte 10 are written side by side.
use native.Mathlib.Omega.{arith}
use lib.ListN.{length-append}
use mathlib.Core.List.{◌++◌}
use Rattle.lists.specs.Ascii.{ascii}
use Rattle.text_lines.proofs.Decimal.{length_most}
use Rattle.number_lists.specs.NumberLists.{spaced}
use Rattle.printing.specs.Output.{query_head, query_line}
use Rattle.lists.proofs.Puts.{put_three}
use Rattle.printing.proofs.Writing.{head-length}
use Rattle.printing.proofs.put_line.Goals as goal

pub put_spaced-end-requires : goal.put_spaced-end-requires
put_spaced-end-requires c = let s = length_most 1 c.args.server (omega arith) in
    let l = head-length c.args.server in
    let e = c.put_head-first.ensures.value in
    let k = c.put_head-first.auto.out in
    omega arith

pub put_bytes-requires : goal.put_bytes-requires
put_bytes-requires c = let s = length_most 1 c.args.server (omega arith) in
    let l = head-length c.args.server in
    let e = c.put_head-first.ensures.value in
    let k = c.put_head-first.auto.out in
    let f = c.put_spaced-end.ensures.upper_bound in
    let m = c.put_spaced-end.auto.out in
    omega arith

pub returns : goal.returns
unfolding query_line
returns c = let a = c.args in
    let query = a.query.now in
    let first = c.put_head-first in
    let second = c.put_spaced-end in
    let third = c.put_bytes in
    let s = length_most 1 a.server (omega arith) in
    let l = head-length a.server in
    let e = c.put_head-first.ensures.value in
    let f = c.put_spaced-end.ensures.value in
    let g = c.put_bytes.ensures.value in
    let h = c.put_spaced-end.ensures.upper_bound in
    let m = length-append (query_head a.server) (spaced query ++ ascii "\n") in
    let n = length-append (spaced query) (ascii "\n") in
    let written =
    put_three a.at (query_head a.server) (spaced query) (ascii "\n")
    a.out.now c.put_head-first.new.out c.put_spaced-end.new.out c.put_bytes.new.out
    c.put_head-first.result c.put_spaced-end.result (omega arith) e f
    c.put_head-first.ensures.out_after c.put_spaced-end.ensures.out_after c.put_bytes.ensures.out_after in
    record {
      value = omega arith;
      upper_bound = omega arith;
      out_after = written;
    }
