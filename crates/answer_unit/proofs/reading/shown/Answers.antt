-- `answer_unit::reading::shown` meets its contract: register by register.
use mathlib.Core.Path.{◌≡◌}
use native.Mathlib.Omega.{arith}
use Rattle.answer_unit.specs.Registers.{shown}
use Rattle.answer_unit.proofs.reading.shown.Goals as goal

pub returns-in-0 : goal.returns-in-0
unfolding shown
returns-in-0 c = rw (c.weighed.ensures, c.in-0.is)

pub returns-in-1 : goal.returns-in-1
unfolding shown
returns-in-1 c = rw (c.status.ensures, c.in-1.is)

pub returns-in-2 : goal.returns-in-2
unfolding shown
returns-in-2 c = rw c.in-2.is

pub returns-in-3 : goal.returns-in-3
unfolding shown
returns-in-3 c = rw (c.next_byte.ensures, c.in-3.is)

pub returns-in-4 : goal.returns-in-4
unfolding shown
returns-in-4 c = rw c.in-4.is

pub returns-in_default : goal.returns-in_default
unfolding shown
returns-in_default c =
    let fifth : c.args.register ≡ 5 = omega (arith, c.requires.register_bound) in
    rw (c.weighed-in_default.ensures, fifth)
