-- `length_text::counted` meets its contract: after i turns the first i lines are taken.
use mathlib.Core.Path.{◌≡◌, sym, ◌∙◌}
use native.Mathlib.Omega.{arith}
use lib.ListN.{set}
use Rattle.text_lines.proofs.RoundTrip.{line_read}
use Rattle.length_text.specs.LengthLines.{length_name, length_digits}
use Rattle.length_text.proofs.Keeping.{taken-first, taken_more, taken-past, taken_refused, taken-all}
use Rattle.length_text.proofs.counted.Goals as goal
use Rattle.length_text.proofs.counted.Goals.{then-i-lt32, else-i-lt32}

pub loop-i-init : goal.loop-i-init
loop-i-init c = let a = c.args in taken-first a.count a.text.now a.at

pub returns-in_default : goal.returns-in_default
returns-in_default c =
    let a = c.args in
    let l = c.loop-i.invariant in
    let none = sym c.number_line.ensures ∙ c.in_default.is in
    sym (taken_refused a.count a.text.now a.at c.loop-i.i c.loop-i.next c.loop-i.places l (omega arith) none)

pub overflow_cast-places : goal.overflow_cast-places
overflow_cast-places c =
    let r = line_read length_digits length_name _ _ _ _ (sym c.number_line.ensures ∙ c.in-Some.is) in omega (arith, r.below)

pub loop-i-preserved : goal.loop-i-preserved
loop-i-preserved c =
    let a = c.args in
    let i = c.loop-i.i in
    let l = c.loop-i.invariant in
    let n = c.in-Some.line.value in
    let line = sym c.number_line.ensures ∙ c.in-Some.is in
    let more = taken_more a.count a.text.now a.at i c.loop-i.next c.loop-i.places l n c.in-Some.line.next (omega arith) line in
    let places-are : c.if-i-lt32.places ≡ set c.loop-i.places i n =
    elim c.if-i-lt32.branch [
      | then-i-lt32 w ↦ w.places-is
      | else-i-lt32 w ↦ w.places-is ∙ sym (taken-past a.count a.text.now a.at i c.loop-i.next c.loop-i.places l n w.if-i-lt32.false)
    ] in
    rw places-are more

pub returns : goal.returns
returns c = let a = c.args in sym (taken-all a.count a.text.now a.at c.loop-i.i c.loop-i.next c.loop-i.places c.loop-i.invariant (omega arith))
