-- `short_rows::digits::digit_sum` meets its contract: the running sum before the first digit is 0, and the last one is the whole.
use mathlib.Core.Path.{◌≡◌, sym, ap, ◌∙◌}
use native.Mathlib.Omega.{arith}
use lib.ListN.{length}
use Rattle.short_rows.specs.Running.{sum_after}
use Rattle.short_rows.proofs.Running.{first-sum, last_sum}
use Rattle.short_rows.proofs.digits.digit_sum.Goals as goal

pub loop-i-init : goal.loop-i-init
loop-i-init c = sym (first-sum c.args.n c.args.digits.now)

pub returns-clause-value : goal.returns-clause-value
returns-clause-value c = let e : c.loop-i.i ≡ length c.args.digits.now = omega arith in
    c.loop-i.invariant ∙ ap (sum_after c.args.n c.args.digits.now) e ∙ last_sum c.args.n c.args.digits.now c.requires
