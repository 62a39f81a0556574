-- `text_lines::width` meets its contract: the digits counted, less one, and those of what is left are all of them.
use native.Mathlib.Omega.{arith}
use Rattle.text_lines.proofs.Decimal.{length-small, length-large, length_most, some-digits}
use Rattle.text_lines.proofs.width.Goals as goal

pub overflow_add-count : goal.overflow_add-count
overflow_add-count c = let n = c.args.n in
    let few = length_most 19 n (omega arith) in
    let some = some-digits c.loop-front.front in
    omega arith

pub loop-front-preserved : goal.loop-front-preserved
loop-front-preserved c = let e = length-large c.loop-front.front c.loop-front-test.true in omega arith

pub returns : goal.returns
returns c = let e = length-small c.loop-front.front c.loop-front-test.false in omega arith
