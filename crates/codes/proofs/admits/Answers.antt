-- `codes::admits` meets its contract: each arm asks the code that the catalogue names.
use Rattle.even_sets.proofs.Fits.{layout-fits}
use Rattle.round_code.proofs.Fits.{fits-numbers}
use Rattle.codes.proofs.Promises.{admitted-even, admitted-round, scheme-short, scheme-even, scheme-turn, scheme-round}
use Rattle.codes.proofs.admits.Goals as goal

pub admits-requires-in-Even : goal.admits-requires-in-Even
admits-requires-in-Even c = let a = c.args.c in
    layout-fits a.servers a.messages a.symbol (admitted-even a c.requires c.in-Even.is)

pub admits-requires-in-Round : goal.admits-requires-in-Round
admits-requires-in-Round c = let a = c.args.c in
    fits-numbers a.servers a.messages a.symbol (admitted-round a c.requires c.in-Round.is)

pub returns-in-Short : goal.returns-in-Short
returns-in-Short c = rw (scheme-short c.args.c c.in-Short.is) c.admits.ensures

pub returns-in-Even : goal.returns-in-Even
returns-in-Even c = rw (scheme-even c.args.c c.in-Even.is) c.admits-in-Even.ensures

pub returns-in-Turn : goal.returns-in-Turn
returns-in-Turn c = rw (scheme-turn c.args.c c.in-Turn.is) c.admits-in-Turn.ensures

pub returns-in-Round : goal.returns-in-Round
returns-in-Round c = rw (scheme-round c.args.c c.in-Round.is) c.admits-in-Round.ensures
