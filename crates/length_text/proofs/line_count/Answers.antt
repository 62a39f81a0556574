-- `length_text::line_count` meets its contract: without the mark there are none, and else as many as messages, but no more than the 32 places.
use mathlib.Core.Path.{refl, sym, ap, ◌∙◌}
use Prim.Native.Nat.{ℕ, min}
use borrow.Author.Tests.{not-true, not-false}
use lib.ListN.{length-take}
use Rattle.lengths.specs.Lengths.{numbers_of}
use Rattle.lengths.proofs.Places.{places-long}
use Rattle.length_text.proofs.line_count.Goals as goal

pub returns-then-not-l-clause-value : goal.returns-then-not-l-clause-value
unfolding numbers_of
returns-then-not-l-clause-value c = rw (not-true c.args.l.given c.if-not-l.true) refl

pub returns-clause-value : goal.returns-clause-value
unfolding numbers_of
returns-clause-value c =
    let l = c.args.l in
    let k = c.args.k in
    rw (not-false l.given c.if-not-l.false)
    (c.min.ensures ∙ ap (λ (n : ℕ). min k n) (sym (places-long l _ c.well_formed.0)) ∙ sym (length-take k l.places))
