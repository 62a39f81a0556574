-- `answer_unit::writing::append` meets its contract: by the bytes held.
use borrow.Author.Tests.{lt-ltb, le-ltb}
use Rattle.answer_unit.specs.Registers.{append}
use Rattle.answer_unit.proofs.writing.append.Goals as goal

pub returns-then-at-ge32 : goal.returns-then-at-ge32
unfolding append
returns-then-at-ge32 c = rw (le-ltb _ 32 c.if-at-ge32.true)

pub returns : goal.returns
unfolding append
returns c = rw (lt-ltb _ 32 c.if-at-ge32.false)
