-- `codes::answer_length` meets its contract: a row of digits calls for what the short code says, a query of the even code for a whole slot.
use Rattle.parameters.specs.Measures.{even_sizes}
use Rattle.codes.proofs.Promises.{admitted-round, scheme-short, scheme-even, scheme-turn, scheme-round}
use Rattle.codes.proofs.answer_length.Goals as goal

pub answer_length-requires-in-Round : goal.answer_length-requires-in-Round
answer_length-requires-in-Round c = admitted-round c.args.c c.requires c.in-Round.is

pub returns-in-Short : goal.returns-in-Short
returns-in-Short c = rw (scheme-short c.args.c c.in-Short.is) c.answer_length.ensures

pub returns-in-Even : goal.returns-in-Even
unfolding even_sizes
returns-in-Even c = let e = scheme-even c.args.c c.in-Even.is in
    rw e (rw e at c.slot.ensures)

pub returns-in-Turn : goal.returns-in-Turn
returns-in-Turn c = rw (scheme-turn c.args.c c.in-Turn.is) c.answer_length-in-Turn.ensures

pub returns-in-Round : goal.returns-in-Round
returns-in-Round c = rw (scheme-round c.args.c c.in-Round.is) c.answer_length-in-Round.ensures
