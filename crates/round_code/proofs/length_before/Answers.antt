-- `round_code::length_before` meets its contract: after i turns the total is that of the rows before row i.
use mathlib.Core.Path.{sym, ap₂, ◌∙◌}
use Prim.Native.Nat.{ℕ, ◌+◌, ◌*◌, ◌≤◌}
use native.Mathlib.Nat.{mul-le-mul}
use native.Mathlib.Omega.{arith}
use Rattle.round_scheme.proofs.Lengths.{before-none, before-next, row-short, before-short}
use Rattle.round_code.proofs.length_before.Goals as goal

pub loop-i-init : goal.loop-i-init
loop-i-init c = let a = c.args in sym (before-none a.k a.s a.query.now)

pub overflow_add-total : goal.overflow_add-total
overflow_add-total c = let a = c.args in
    let i = c.loop-i.i in
    let low : i ≤ 64 = omega (arith, c.requires) in
    let most : i * a.s ≤ 64 * 4096 = mul-le-mul low c.requires.1 in
    let short = before-short a.k a.s a.query.now i in
    let one = row-short a.k a.s a.query.now i in
    record { fits = omega (arith, c.loop-i.invariant, c.row_length-total.ensures, c.requires) }

pub loop-i-preserved : goal.loop-i-preserved
loop-i-preserved c = let a = c.args in
    ap₂ (λ (t r : ℕ). t + r) c.loop-i.invariant c.row_length-total.ensures ∙ sym (before-next a.k a.s a.query.now c.loop-i.i)
