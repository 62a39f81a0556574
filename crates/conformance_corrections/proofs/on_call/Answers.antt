-- `on_call` is safe: each part that is lent lies within its buffer.
use Rattle.trial_bytes.proofs.Taken.{taken}
use borrow.Author.Rules.{rules}
use Rattle.conformance_corrections.proofs.on_call.Goals as goal

pub slice_bounds-on_call-end-2 : goal.slice_bounds-on_call-end-2
slice_bounds-on_call-end-2 c = search (rules, taken)
