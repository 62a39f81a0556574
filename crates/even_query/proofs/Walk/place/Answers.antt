-- `even_query::Walk::place` meets its contract: the wanted message's place is of the row's own block and turn, the others' of its source.
use borrow.Author.Tests.{eq-eqb, ne_eqb}
use Rattle.even_ranks.specs.Walk.{origin_place}
use Rattle.even_query.proofs.Walk.place.Goals as goal

pub place_in-requires : goal.place_in-requires
unfolding origin_place
place_in-requires c = let a = c.args in
    let w = c.requires.0 in
    (w.block-low, c.requires.1, w.some, rw (eq-eqb a.p a.self.now.wanted c.if-p-self.true) at c.requires.3)

pub returns-then-p-self : goal.returns-then-p-self
unfolding origin_place
returns-then-p-self c = let a = c.args in
    rw (eq-eqb a.p a.self.now.wanted c.if-p-self.true) c.place_in.ensures

pub place_in-requires-2 : goal.place_in-requires-2
unfolding origin_place
place_in-requires-2 c = let a = c.args in
    let w = c.requires.0 in
    (w.source-low, c.requires.1, w.some, rw (ne_eqb a.p a.self.now.wanted c.if-p-self.false) at c.requires.3)

pub returns : goal.returns
unfolding origin_place
returns c = let a = c.args in
    rw (ne_eqb a.p a.self.now.wanted c.if-p-self.false) c.place_in-2.ensures
