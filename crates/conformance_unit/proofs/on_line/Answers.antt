-- `on_line` is safe: the part of the store that is lent is no longer than the store.
use Rattle.trial_bytes.proofs.Taken.{taken}
use borrow.Author.Rules.{rules}
use Rattle.conformance_unit.proofs.on_line.Goals as goal

pub slice_bounds-on_call-end-in-90 : goal.slice_bounds-on_call-end-in-90
slice_bounds-on_call-end-in-90 c = search (rules, taken)
