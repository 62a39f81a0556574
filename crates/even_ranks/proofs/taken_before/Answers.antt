-- `even_ranks::taken_before` meets its contract: after j turns `sum` is what is taken in the blocks before j, and `rows` is (N - 1)^j.
use mathlib.Core.Path.{◌≡◌, sym, ap, ap₂, ◌∙◌}
use Prim.Native.Nat.{ℕ, suc, ◌+◌, ◌-◌, ◌*◌, ◌^◌}
use native.Mathlib.Nat.{pow-zero, pow-suc}
use native.Mathlib.Numerals.{add-one}
use native.Mathlib.Omega.{arith}
use Rattle.even_ranks.specs.Counts.{takers}
use Rattle.even_ranks.proofs.Steps.{taken_none, taken_more, rows-small, share-small, taken-small}
use Rattle.even_ranks.proofs.taken_before.Goals as goal

pub loop-j-init : goal.loop-j-init
loop-j-init c = (
  sym (taken_none c.args.n c.args.wanted c.args.totals.now c.args.p),
  sym (pow-zero (c.args.n - 1)),
)

pub overflow_mul-sum : goal.overflow_mul-sum
overflow_mul-sum c = let a = c.args in
    let j = c.loop-j.j in
    let share = share-small a.n a.wanted a.totals.now c.requires.1 c.requires.4 c.requires.5 a.p c.requires.3 j (omega arith) in
    let same : c.loop-j.rows * c.takers.result ≡ (a.n - 1) ^ j * takers a.wanted a.totals.now j a.p =
    ap₂ (λ (x y : ℕ). x * y) c.loop-j.invariant.1 c.takers.ensures in
    omega arith

pub overflow_add-sum : goal.overflow_add-sum
overflow_add-sum c = let a = c.args in
    let j = c.loop-j.j in
    let share = share-small a.n a.wanted a.totals.now c.requires.1 c.requires.4 c.requires.5 a.p c.requires.3 j (omega arith) in
    let same : c.loop-j.rows * c.takers.result ≡ (a.n - 1) ^ j * takers a.wanted a.totals.now j a.p =
    ap₂ (λ (x y : ℕ). x * y) c.loop-j.invariant.1 c.takers.ensures in
    let before = taken-small a.n a.wanted a.totals.now c.requires.1 c.requires.4 c.requires.5 a.p c.requires.3 j (omega arith) in
    omega arith

pub overflow_mul-rows : goal.overflow_mul-rows
overflow_mul-rows c = let a = c.args in
    let j = c.loop-j.j in
    let high = rows-small a.n a.wanted a.totals.now c.requires.1 c.requires.4 c.requires.5 a.p c.requires.3 (suc j) (omega arith) in
    omega (arith, pow-suc (a.n - 1) j, ap (λ (x : ℕ). x * (a.n - 1)) c.loop-j.invariant.1)

pub loop-j-preserved : goal.loop-j-preserved
loop-j-preserved c = let a = c.args in
    let j = c.loop-j.j in (
      ap₂ (λ (x y : ℕ). x + y) c.loop-j.invariant.0 (ap₂ (λ (x y : ℕ). x * y) c.loop-j.invariant.1 c.takers.ensures)
          ∙ sym (taken_more a.n a.wanted a.totals.now j a.p),
      ap (λ (x : ℕ). x * (a.n - 1)) c.loop-j.invariant.1 ∙ sym (ap (λ (x : ℕ). (a.n - 1) ^ x) (add-one j) ∙ pow-suc (a.n - 1) j),
    )
