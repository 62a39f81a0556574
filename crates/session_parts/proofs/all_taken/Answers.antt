-- `session_parts::all_taken` meets its contract: the marks of the servers are all set.
use Rattle.std.proofs.Common.{Bool, take, ◌∙◌, rules, tests, arith}
use Rattle.std.proofs.lemmas.Iterator.{YieldsList-from_slice}
use Rattle.std.proofs.lemmas.Iterator.Search.{all_from_yields_List}
use Rattle.session_parts.specs.Marks.{all_taken}
use Rattle.session_parts.proofs.Marks.{every_marked}
use Rattle.session_parts.proofs.all_taken.Goals as goal

pub returns : goal.returns
unfolding all_taken
returns c = let servers = c.args.servers in
    let taken = c.args.taken.now in
    all_from_yields_List (λ (t : Bool). t) _ _ _ c.all.ensures.ran (YieldsList-from_slice (take servers taken) (cc)) (λ x b q k. search (rules, tests))
    ∙ every_marked servers taken (omega arith)
