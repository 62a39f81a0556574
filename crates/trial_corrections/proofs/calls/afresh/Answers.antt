-- `calls::afresh` is safe: the part that is printed is no longer than the buffer.
use Rattle.trial_bytes.proofs.Taken.{taken}
use borrow.Author.Rules.{rules}
use Rattle.trial_corrections.proofs.calls.afresh.Goals as goal

pub slice_bounds-bytes-end-in-Ok : goal.slice_bounds-bytes-end-in-Ok
slice_bounds-bytes-end-in-Ok c = search (rules, taken)
