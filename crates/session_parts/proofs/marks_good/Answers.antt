-- `session_parts::marks_good` meets its contract: the marks of the places so far are good.
use Rattle.std.proofs.Common.{◌≡◌, sym, arith}
use Rattle.lists.proofs.Every.{every-none, every_more, every-false}
use Rattle.session_parts.specs.Marks.{marks_good}
use Rattle.session_parts.proofs.marks_good.Goals as goal

pub loop-place-init : goal.loop-place-init
loop-place-init c = every-none _

pub returns-then-not-mark_good : goal.returns-then-not-mark_good
unfolding marks_good
returns-then-not-mark_good c = sym (every-false 16 _ c.loop-place.place (omega arith) (sym c.if-not-mark_good.ensures))

pub loop-place-preserved : goal.loop-place-preserved
loop-place-preserved c = every_more c.loop-place.place _ c.loop-place.invariant (sym c.if-not-mark_good.ensures)

pub returns : goal.returns
unfolding marks_good
returns c = let e : c.loop-place.place ≡ 16 = omega arith in sym (rw e at c.loop-place.invariant)
