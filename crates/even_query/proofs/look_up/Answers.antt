-- `even_query::look_up` meets its contract: after i turns the entries from i on are still to be written.
use native.Mathlib.Omega.{arith}
use Rattle.lists.proofs.Writing.{pending-start, pending-byte, pending_done}
use Rattle.even_query.proofs.Entries.{entries-start, entries-more, entries-done, entries-length}
use Rattle.even_query.proofs.look_up.Goals as goal

pub loop-i-init : goal.loop-i-init
loop-i-init c = let a = c.args in
    let all = entries-length a.symbols a.key.now a.messages.now a.places.now c.requires.0.even in
    rw (entries-start a.symbols a.key.now a.messages.now a.places.now) (pending-start (omega (arith, all, c.requires.1)))

pub loop-i-preserved : goal.loop-i-preserved
loop-i-preserved c = let a = c.args in
    pending-byte (rw (entries-more a.symbols c.loop-i.i a.key.now a.messages.now a.places.now c.requires.0.even (omega arith)) at c.loop-i.invariant)

pub returns : goal.returns
returns c = let a = c.args in
    pending_done (rw (entries-done a.symbols c.loop-i.i a.key.now a.messages.now a.places.now (omega arith)) at c.loop-i.invariant)
