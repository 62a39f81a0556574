-- `answer_unit::writing::control` meets its contract: by its bits, and whether an answer waits.
use mathlib.Core.Path.{sym, ◌∙◌}
use Prim.Native.Nat.{◌≤◌, ◌<◌}
use native.Mathlib.Omega.{arith}
use borrow.Author.Tests.{lt-ltb, le-ltb}
use Rattle.answer_unit.specs.Registers.{control}
use Rattle.answer_unit.proofs.writing.control.Goals as goal

pub returns-then-bit : goal.returns-then-bit
unfolding control
returns-then-bit c = rw (c.fresh.ensures, sym c.bit.ensures ∙ c.if-bit.true)

pub returns-then-unit-eq0 : goal.returns-then-unit-eq0
unfolding control
returns-then-unit-eq0 c = let u = c.args.unit in
    let none : u.waiting ≤ 0 = omega (arith, c.if-unit-eq0.true) in
    rw (
      c.start.ensures,
      sym c.bit.ensures ∙ c.if-bit.false,
      c.bit-2.ensures,
      sym c.bit-3.ensures ∙ c.if-bit-2.true,
      le-ltb 0 u.waiting none,
    )

pub returns-else-unit-eq0 : goal.returns-else-unit-eq0
unfolding control
returns-else-unit-eq0 c = let u = c.args.unit in
    let some : 0 < u.waiting = omega (arith, c.if-unit-eq0.false) in
    rw (
      sym c.bit.ensures ∙ c.if-bit.false,
      c.bit-2.ensures,
      sym c.bit-3.ensures ∙ c.if-bit-2.true,
      lt-ltb 0 u.waiting some,
    )

pub returns-else-bit-2 : goal.returns-else-bit-2
unfolding control
returns-else-bit-2 c = rw (
  sym c.bit.ensures ∙ c.if-bit.false,
  c.bit-2.ensures,
  sym c.bit-3.ensures ∙ c.if-bit-2.false,
)
