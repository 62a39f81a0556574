-- `parameters::power` meets its contract: no power on the way to one that fits is too large.
use Rattle.std.proofs.Common.{◌≡◌, ℕ, suc, ◌*◌, ◌^◌, ap, arith}
use Rattle.std.proofs.Math.Nat.{pow-suc}
use Rattle.parameters.proofs.Powers.{power-fits}
use Rattle.parameters.proofs.power.Goals as goal

pub overflow_mul-result : goal.overflow_mul-result
overflow_mul-result c =
    let base = c.args.base in
    let more = pow-suc base c.loop.counter in
    let now : c.loop.result * base ≡ base ^ c.loop.counter * base = ap (λ (r : ℕ). r * base) c.loop.invariant in
    let fits = power-fits base (suc c.loop.counter) c.args.exponent (omega arith) c.requires in
    record { fits = omega arith }
