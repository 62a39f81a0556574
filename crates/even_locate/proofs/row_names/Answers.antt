-- `even_locate::row_names` meets its contract: after p turns the cells of the set's messages from p on are left, and those before are not the one.
use mathlib.Core.Path.{◌≡◌, sym, ap, ◌∙◌}
use mathlib.Core.Bool.{Bool}
use mathlib.Core.List.{zip}
use Prim.Native.Nat.{◌+◌, ◌-◌, ◌/◌, ◌<◌}
use native.Mathlib.Nat.{zero-add}
use native.Mathlib.Omega.{arith}
use lib.ListN.{length, get_or, drop}
use Rattle.lists.specs.Sums.{bit}
use Rattle.even_places.specs.Rule.{members}
use Rattle.even_sets.specs.Sets.{set_in}
use Rattle.even_layout.proofs.Bytes.{members_from, members_kept, members-skipped}
use Rattle.scheme.specs.Asked.{is_cell, times_in}
use Rattle.even_locate.proofs.Scan.{cell-next, some-named, none_named, no_cells}
use Rattle.even_locate.proofs.row_names.Goals as goal
use Rattle.even_locate.proofs.row_names.Goals.{then-rest-eq1+else-is_cell, else-rest-eq1}

pub bounds-numbers-taken : goal.bounds-numbers-taken
bounds-numbers-taken c =
    omega (arith, ap length (members_kept c.args.k c.loop-p.p c.loop-p.rest (omega arith) c.if-rest-eq1.true), c.loop-p.invariant.0)

pub returns-then-is_cell : goal.returns-then-is_cell
unfolding bit
returns-then-is_cell c =
    let a = c.args in
    let numbers = a.numbers.now in
    let p = c.loop-p.p in
    let taken = c.loop-p.taken in
    let rest = c.loop-p.rest in
    let inside : taken < length numbers = omega (arith, ap length (members_kept a.k p rest (omega arith) c.if-rest-eq1.true), c.loop-p.invariant.0) in
    let left = times_in a.message a.symbol (zip (members_from a.k (p + 1) (rest / 2)) (drop (taken + 1) numbers)) in
    let here : is_cell a.message a.symbol (p, get_or numbers taken 0) ≡ _ = sym c.is_cell.ensures ∙ c.if-is_cell.true in
    some-named a.message a.symbol (zip (members 0 (set_in a.k a.set)) numbers) left
    (sym c.loop-p.invariant.1
    ∙ cell-next a.message a.symbol a.k p rest taken numbers (omega arith) c.if-rest-eq1.true inside
    ∙ ap (λ (t : Bool). bit t + left) here)

pub loop-p-preserved : goal.loop-p-preserved
unfolding bit
loop-p-preserved c =
    let a = c.args in
    let numbers = a.numbers.now in
    let p = c.loop-p.p in
    let taken = c.loop-p.taken in
    let rest = c.loop-p.rest in
    elim c.if-rest-eq1.branch [
      | then-rest-eq1+else-is_cell w ↦
          let kept = members_kept a.k p rest (omega arith) w.if-rest-eq1.true in
          let inside : taken < length numbers = omega (arith, ap length kept, c.loop-p.invariant.0) in
          let left = times_in a.message a.symbol (zip (members_from a.k (p + 1) (rest / 2)) (drop (taken + 1) numbers)) in
          let other : is_cell a.message a.symbol (p, get_or numbers taken 0) ≡ _ = sym w.is_cell.ensures ∙ w.if-is_cell.false in
          rw w.taken-is (
            omega (arith, ap length kept, c.loop-p.invariant.0),
            sym (cell-next a.message a.symbol a.k p rest taken numbers (omega arith) w.if-rest-eq1.true inside
                ∙ ap (λ (u : Bool). bit u + left) other ∙ zero-add left)
                ∙ c.loop-p.invariant.1,
          )
      | else-rest-eq1 w ↦
          let skipped = members-skipped a.k p rest (omega arith) w.if-rest-eq1.false in
          rw w.taken-is (rw skipped at c.loop-p.invariant.0, rw skipped at c.loop-p.invariant.1)
    ]

pub returns : goal.returns
unfolding members set_in
returns c = let a = c.args in
    let none : a.k - c.loop-p.p ≡ 0 = omega arith in
    none_named a.message a.symbol (zip (members 0 (set_in a.k a.set)) a.numbers.now)
    (sym (rw none at c.loop-p.invariant.1) ∙ no_cells a.message a.symbol (drop c.loop-p.taken a.numbers.now))
