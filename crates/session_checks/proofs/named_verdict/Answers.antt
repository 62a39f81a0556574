-- `session_checks::named_verdict` meets its contract: the test of the server, and then the verdict on the fields.
use borrow.Author.Tests.{le-leb, lt-leb}
use Rattle.session_checks.proofs.named_verdict.Goals as goal

pub returns-then-c-server : goal.returns-then-c-server
returns-then-c-server c = rw (le-leb _ _ c.if-c-server.true)

pub returns : goal.returns
returns c = rw (lt-leb _ _ c.if-c-server.false) c.fields_verdict.ensures
