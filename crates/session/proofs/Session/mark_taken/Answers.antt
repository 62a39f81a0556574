-- `session::Session::mark_taken` meets its contract: the mark is set, and the meters are what `count_taken` gives.

use Rattle.session.proofs.Session.mark_taken.Goals as goal

pub count_taken-self-requires : goal.count_taken-self-requires
count_taken-self-requires c = c.requires

pub returns : goal.returns
returns c = rw c.count_taken-self.ensures
