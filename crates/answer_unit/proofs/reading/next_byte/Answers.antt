-- `answer_unit::reading::next_byte` meets its contract: by whether a byte waits.
use Prim.Native.Nat.{◌≤◌, ◌<◌}
use native.Mathlib.Omega.{arith}
use borrow.Author.Tests.{lt-ltb, le-ltb}
use Rattle.answer_unit.proofs.reading.next_byte.Goals as goal

pub returns-then-unit-eq0 : goal.returns-then-unit-eq0
returns-then-unit-eq0 c = let none : c.args.unit.waiting ≤ 0 = omega (arith, c.if-unit-eq0.true) in
    rw (le-ltb 0 c.args.unit.waiting none)

pub returns : goal.returns
returns c = let some : 0 < c.args.unit.waiting = omega (arith, c.if-unit-eq0.false) in
    rw (lt-ltb 0 c.args.unit.waiting some)
