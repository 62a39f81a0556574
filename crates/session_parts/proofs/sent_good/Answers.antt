-- `session_parts::sent_good` meets its contract: up to one query the rule says that it is one.
use Rattle.session_parts.proofs.Metering.{one-query}
use Rattle.session_parts.proofs.sent_good.Goals as goal

pub returns-then-bytes-query : goal.returns-then-bytes-query
returns-then-bytes-query c = rw c.if-not-issued.false (one-query c.args.query c.args.bytes c.if-bytes-query.true)
