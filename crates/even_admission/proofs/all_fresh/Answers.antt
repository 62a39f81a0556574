-- `even_admission::all_fresh` meets its contract: before each turn the numbers that are left decide, with the marks so far.
use mathlib.Core.Path.{◌≡◌, sym, ◌∙◌}
use mathlib.Core.Bool.{Bool, false}
use mathlib.Core.Logic.{inl, inr}
use Prim.Native.Nat.{suc}
use native.Mathlib.Omega.{arith}
use lib.ListN.{length, length-set, length-replicate}
use Rattle.even_admission.proofs.Fresh.{fresh_start, fresh-high, fresh-marked, fresh-more, fresh-end, cell_room}
use Rattle.even_admission.proofs.all_fresh.Goals as goal

pub loop-message-init : goal.loop-message-init
loop-message-init c =
    let first : c.into_iter-message-iterator.result.a.rest.now ≡ c.args.messages.now = cc in
    let second : c.into_iter-message-iterator.result.b.rest.now ≡ c.args.numbers.now = cc in (
      rw (first, second) c.requires.1,
      rw first c.requires.2,
      length-replicate {A = Bool} 2048 false,
      rw (first, second) (fresh_start c.args.size 2048 c.args.messages.now c.args.numbers.now),
    )

pub returns-then-size-number : goal.returns-then-size-number
returns-then-size-number c = let left = rw (c.in-Some.ensures.steps.0, c.in-Some.ensures.steps.1) at c.loop-message.invariant in
    sym (fresh-high c.args.size c.loop-message.marks _ c.in-Some.number.now _ _ (omega (arith, c.if-size-number.true))) ∙ left.3

pub bounds-marks-cell : goal.bounds-marks-cell
bounds-marks-cell c = let left = rw (c.in-Some.ensures.steps.0) at c.loop-message.invariant in
    cell_room c.args.size _ _ c.requires.0 (left.1 0 (omega arith)) c.if-size-number.false

pub returns-then-marks-cell : goal.returns-then-marks-cell
returns-then-marks-cell c = let left = rw (c.in-Some.ensures.steps.0, c.in-Some.ensures.steps.1) at c.loop-message.invariant in
    sym (fresh-marked c.args.size c.loop-message.marks _ _ _ _ c.if-size-number.false c.if-marks-cell.true) ∙ left.3

pub bounds-marks-cell-in-loop-message : goal.bounds-marks-cell-in-loop-message
bounds-marks-cell-in-loop-message c = let left = rw (c.in-Some.ensures.steps.0) at c.loop-message.invariant in
    cell_room c.args.size _ _ c.requires.0 (left.1 0 (omega arith)) c.if-size-number.false

pub loop-message-preserved : goal.loop-message-preserved
loop-message-preserved c = let left = rw (c.in-Some.ensures.steps.0, c.in-Some.ensures.steps.1) at c.loop-message.invariant in
    let room = cell_room c.args.size _ _ c.requires.0 (left.1 0 (omega arith)) c.if-size-number.false in (
      omega (arith, left.0),
      (λ i h. left.1 (suc i) (omega arith)),
      simp length-set c.loop-message.invariant.2,
      sym (fresh-more c.args.size c.loop-message.marks _ _ _ _ c.if-size-number.false (omega (arith, room, left.2)) c.if-marks-cell.false) ∙ left.3,
    )

pub returns : goal.returns
returns c = let a = c.loop-message.message-iterator.a.rest.now in
    let b = c.loop-message.message-iterator.b.rest.now in
    let none : length a ≡ 0 = elim c.in-None.ensures.steps [ inl w ↦ w.1.0 | inr w ↦ omega arith ] in
    sym (fresh-end c.args.size c.loop-message.marks a b none (omega arith)) ∙ c.loop-message.invariant.3
