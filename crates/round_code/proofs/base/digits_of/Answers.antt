-- `round_code::base::digits_of` meets its contract: before each turn, the digits that are left, and those that are written behind them, are all.
use mathlib.Core.Path.{◌≡◌, refl, sym, ap, ◌∙◌}
use mathlib.Core.List.{List, ◌++◌}
use Prim.Native.Nat.{ℕ, suc, ◌-◌, ◌^◌, ◌<◌}
use native.Mathlib.Omega.{arith}
use lib.ListN.{drop, replicate, length-set}
use Rattle.lists.proofs.Replicate.{drop-replicate}
use Rattle.round_scheme.specs.Round.{digits}
use Rattle.round_scheme.proofs.Numbers.{digits-length}
use Rattle.round_code.specs.Steps.{most_digits}
use Rattle.round_code.proofs.LastDigits.{rest-low, digit-written}
use Rattle.round_code.proofs.base.digits_of.Goals as goal

pub loop-i-init : goal.loop-i-init
loop-i-init c = let a = c.args in
    let all = digits a.n a.count a.value in
    let long = digits-length a.n a.count a.value in (
      refl,
      c.requires.count_le_most_digits.1,
      ap (λ (l : List ℕ). all ++ l)
          (drop-replicate {A = ℕ} a.count most_digits 0 ∙ ap (λ (n : ℕ). replicate {A = ℕ} (most_digits - n) 0) (sym long)),
    )

pub loop-i-preserved : goal.loop-i-preserved
loop-i-preserved c = let n = c.args.n in
    let i = c.loop-i.i in
    let rest = c.loop-i.rest in
    let some : 0 < n = omega arith in
    let e : suc (i - 1) ≡ i = omega arith in
    let low : rest < n ^ suc (i - 1) = rw e c.loop-i.invariant.1 in (
      simp length-set c.loop-i.invariant.0,
      rest-low n some (i - 1) rest low,
      digit-written n some (i - 1) rest low c.loop-i.out (omega arith)
          ∙ ap (λ (m : ℕ). digits n m rest ++ drop m c.loop-i.out) e
          ∙ c.loop-i.invariant.2,
    )

pub returns : goal.returns
unfolding digits
returns c = let last : c.loop-i.i ≡ 0 = omega arith in
    rw last at c.loop-i.invariant.2
