-- `Fetch::from_server` meets its contract: before each turn the parts of the sets before it are written, and `cell` is where its rows start.
use Rattle.symbol.specs.Operations.{sum_of}
use Rattle.even_recover.proofs.Fetched.{Fetched}
use Rattle.even_recover.proofs.Fetch.from_server.Given as goal

abbrev pub invariant-loop-set : goal.invariant-loop-set
invariant-loop-set l =
    Fetched (sum_of l.self.op) l.self.servers l.self.messages l.self.symbol l.self.wanted l.server l.self.key.now l.self.answers.now l.initial.message
    l.message l.cell l.set-index
