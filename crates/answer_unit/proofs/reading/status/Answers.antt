-- `answer_unit::reading::status` meets its contract: the sum of three bits at their places, which is at most 7.
use Prim.Native.Nat.{◌≤◌}
use native.Mathlib.Omega.{arith}
use lib.Dec.{ltb}
use Rattle.answer_unit.proofs.Steps.{weigh-small}
use Rattle.answer_unit.proofs.reading.status.Goals as goal

pub overflow_add-result : goal.overflow_add-result
overflow_add-result c = let u = c.args.unit in
    let a : c.weighed.result ≤ 1 = rw c.weighed.ensures (weigh-small (ltb 0 u.waiting) 1) in
    let b : c.weighed-2.result ≤ 2 = rw c.weighed-2.ensures (weigh-small u.refused 2) in
    omega (arith, a, b)

pub overflow_add-result-2 : goal.overflow_add-result-2
overflow_add-result-2 c = let u = c.args.unit in
    let a : c.weighed.result ≤ 1 = rw c.weighed.ensures (weigh-small (ltb 0 u.waiting) 1) in
    let b : c.weighed-2.result ≤ 2 = rw c.weighed-2.ensures (weigh-small u.refused 2) in
    let d : c.weighed-3.result ≤ 4 = rw c.weighed-3.ensures (weigh-small u.overrun 4) in
    omega (arith, a, b, d)
