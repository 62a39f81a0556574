-- `answer_unit::writing::after_write` meets its contract: register by register.
use mathlib.Core.Path.{◌≡◌}
use native.Mathlib.Omega.{arith}
use Rattle.answer_unit.specs.Registers.{after_write}
use Rattle.answer_unit.proofs.writing.after_write.Goals as goal

pub control-requires : goal.control-requires
control-requires c = c.requires.held_bound

pub returns-in-0 : goal.returns-in-0
unfolding after_write
returns-in-0 c = rw (c.control.ensures, c.in-0.is)

pub returns-in-1 : goal.returns-in-1
unfolding after_write
returns-in-1 c = rw c.in-1.is

pub returns-in-2 : goal.returns-in-2
unfolding after_write
returns-in-2 c = rw (c.append.ensures, c.in-2.is)

pub returns-in-3 : goal.returns-in-3
unfolding after_write
returns-in-3 c = rw c.in-3.is

pub returns-in-4 : goal.returns-in-4
unfolding after_write
returns-in-4 c = rw c.in-4.is

pub returns-in_default : goal.returns-in_default
unfolding after_write
returns-in_default c =
    let fifth : c.args.register ≡ 5 = omega (arith, c.requires.register_bound) in
    rw (c.acknowledge.ensures, fifth)
