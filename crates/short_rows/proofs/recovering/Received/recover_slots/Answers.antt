-- `short_rows::recovering::Received::recover_slots` meets its contract: the slots lie where their starts say, and the test of the key's digits says whether
-- server t's answer is empty.
use Rattle.short_rows.proofs.Parts.{slotted-placed}
use Rattle.short_rows.proofs.recovering.Received.recover_slots.Goals as goal

pub recover_row-requires-clause-placed : goal.recover_row-requires-clause-placed
recover_row-requires-clause-placed c = let a = c.args in
    rw c.slot_starts-starts.ensures (slotted-placed a.self.now.servers a.self.now.size a.self.now.answers.now c.requires.slotted)
