-- `fit` meets its contract: the places so far may hold what they hold.
use Rattle.std.proofs.Common.{◌≡◌, Bool, ◌&&◌, eqb, length, sym, ap, ◌∙◌, arith}
use mathlib.Core.Bool.{and-false}
use borrow.Author.Tests.{eq-eqb}
use Rattle.lists.proofs.Every.{every-none, every_more, every-false}
use Rattle.lengths.specs.Lengths.{lengths_fit}
use Rattle.lengths.proofs.Places.{places-long}
use Rattle.lengths.proofs.fit.Goals as goal

pub loop-place-init : goal.loop-place-init
loop-place-init c = every-none _

pub returns-then-not-place_fits : goal.returns-then-not-place_fits
unfolding lengths_fit
returns-then-not-place_fits c = let long = places-long c.args.l _ c.well_formed.0 in
    sym (ap (λ (t : Bool). eqb (length c.args.l.places) 32 && t) (every-false 32 _ c.loop-place.place (omega arith) (sym c.if-not-place_fits.ensures))
    ∙ and-false (eqb (length c.args.l.places) 32))

pub loop-place-preserved : goal.loop-place-preserved
loop-place-preserved c = every_more c.loop-place.place _ c.loop-place.invariant (sym c.if-not-place_fits.ensures)

pub returns : goal.returns
unfolding lengths_fit
returns c = let long = places-long c.args.l _ c.well_formed.0 in
    let e : c.loop-place.place ≡ 32 = omega arith in
    sym (rw (eq-eqb (length c.args.l.places) 32 long) (rw e at c.loop-place.invariant))
