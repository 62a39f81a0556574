-- `session::Session::mark_issued` meets its contract: the mark is set, and the meters are what `count_issued` gives.

use Rattle.session.proofs.Session.mark_issued.Goals as goal

pub count_issued-self-requires : goal.count_issued-self-requires
count_issued-self-requires c = c.requires

pub returns : goal.returns
returns c = rw c.count_issued-self.ensures
