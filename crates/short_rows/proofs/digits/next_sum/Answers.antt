-- `short_rows::digits::next_sum` meets its contract: the running sum before the digit is below n, and so is the digit, and the two
-- modulo n are the next running sum.
use mathlib.Core.Path.{sym, ap, ◌∙◌}
use Prim.Native.Nat.{ℕ, ◌+◌, ◌%◌}
use native.Mathlib.Omega.{arith}
use lib.ListN.{get_or}
use Rattle.lists.proofs.Below.{all_below-below}
use Rattle.short_rows.proofs.Running.{sums-below, next-sum}
use Rattle.short_rows.proofs.digits.next_sum.Goals as goal

pub add_modulo-requires : goal.add_modulo-requires
add_modulo-requires c = let a = c.args in
    let s = sums-below a.n a.digits.now c.requires.digits_value a.i (omega arith) in
    (omega (arith, c.requires.sum_value), all_below-below a.n a.digits.now c.requires.digits_value a.i (omega arith))

pub returns : goal.returns
returns c = let a = c.args in
    let l = a.digits.now in
    let s = sums-below a.n l c.requires.digits_value a.i (omega arith) in
    let n = next-sum a.n l c.requires.digits_value a.i (omega arith) in
    let e = c.add_modulo.ensures ∙ ap (λ (x : ℕ). (x + get_or l a.i 0) % a.n) c.requires.sum_value ∙ sym n in
    record {
      value = e;
      sum_lt_n = (omega (arith, c.requires.sum_value), omega arith);
    }
