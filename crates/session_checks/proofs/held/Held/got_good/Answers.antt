-- `session_checks::held::Held::got_good` meets its contract: the mark decides, and else the length that is called for.
use mathlib.Core.Path.{ap}
use borrow.Author.Tests.{not-true, not-false}
use lib.Dec.{eqb}
use Rattle.session_parts.specs.Meters.{counted}
use Rattle.session_checks.proofs.held.Held.got_good.Goals as goal

pub returns-then-not-taken : goal.returns-then-not-taken
returns-then-not-taken c = rw (not-true c.args.taken c.if-not-taken.true-raw)

pub expected_length-requires : goal.expected_length-requires
expected_length-requires c = let pre = c.requires in
    record {
      admitted = c.requires.checked.admitted;
      wanted_lt_messages = (c.requires.checked.wanted_lt_messages, c.requires.server_lt_servers (not-false c.args.taken c.if-not-taken.false-raw));
      valid = c.requires.checked.valid;
    }

pub returns : goal.returns
returns c = let args = c.args in
    rw (not-false args.taken c.if-not-taken.false-raw) (ap (eqb (counted args.self.meters.got args.server)) c.expected_length.ensures)
