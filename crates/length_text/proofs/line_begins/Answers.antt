-- `length_text::line_begins` meets its contract: past the end of the text nothing begins.
use native.Mathlib.Omega.{arith}
use borrow.Author.Tests.{lt-leb}
use lib.ListN.{drop_of_length-le}
use Rattle.length_text.proofs.RoundTrip.{nothing-begins}
use Rattle.length_text.proofs.line_begins.Goals as goal

pub returns-else-at-text : goal.returns-else-at-text
returns-else-at-text c =
    let a = c.args in simp (lt-leb _ _ c.if-at-text.false, drop_of_length-le a.text.now {i = a.at} (omega arith), nothing-begins)
