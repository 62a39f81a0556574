-- `printing::checks::check_key` meets its contract: each test is a link of the chain.
use borrow.Author.Tests.{le-leb, lt-leb, eq-eqb, ne_eqb, not-true, not-false}
use Rattle.printing.proofs.checks.check_key.Goals as goal

pub returns-then-messages-wanted : goal.returns-then-messages-wanted
returns-then-messages-wanted c = simp (le-leb _ _ c.if-messages-wanted.true)

pub returns-then-count-due : goal.returns-then-count-due
returns-then-count-due c = simp (lt-leb _ _ c.if-messages-wanted.false, ne_eqb _ _ c.if-count-due.true)

pub returns-then-not-bytes : goal.returns-then-not-bytes
returns-then-not-bytes c = let bytes = c.args.bytes in
    simp (lt-leb _ _ c.if-messages-wanted.false, eq-eqb _ _ c.if-count-due.false, not-true bytes c.if-not-bytes.true-raw)

pub returns : goal.returns
returns c = let bytes = c.args.bytes in
    simp (lt-leb _ _ c.if-messages-wanted.false, eq-eqb _ _ c.if-count-due.false, not-false bytes c.if-not-bytes.false-raw)
