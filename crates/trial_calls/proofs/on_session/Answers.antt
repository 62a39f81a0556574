-- `on_session` is safe: each part that is lent is no longer than its buffer.
use Rattle.trial_bytes.proofs.Taken.{taken}
use borrow.Author.Rules.{rules}
use Rattle.trial_calls.proofs.on_session.Goals as goal

pub slice_bounds-begin-end : goal.slice_bounds-begin-end
slice_bounds-begin-end c = search (rules, taken)

pub slice_bounds-issue-end-in-105 : goal.slice_bounds-issue-end-in-105
slice_bounds-issue-end-in-105 c = search (rules, taken)

pub slice_bounds-take-end : goal.slice_bounds-take-end
slice_bounds-take-end c = search (rules, taken)

pub slice_bounds-take-end-in-104-2 : goal.slice_bounds-take-end-in-104-2
slice_bounds-take-end-in-104-2 c = search (rules, taken)

pub slice_bounds-recover-end-in-114 : goal.slice_bounds-recover-end-in-114
slice_bounds-recover-end-in-114 c = search (rules, taken)

pub slice_bounds-recover-end-in-114-3 : goal.slice_bounds-recover-end-in-114-3
slice_bounds-recover-end-in-114-3 c = search (rules, taken)
