-- `on_server` is safe: each part that is lent is no longer than its buffer.
use Rattle.trial_bytes.proofs.Taken.{taken}
use borrow.Author.Rules.{rules}
use Rattle.trial_calls.proofs.on_server.Goals as goal

pub slice_bounds-write-end-in-119 : goal.slice_bounds-write-end-in-119
slice_bounds-write-end-in-119 c = search (rules, taken)

pub slice_bounds-answer-end : goal.slice_bounds-answer-end
slice_bounds-answer-end c = search (rules, taken)

pub slice_bounds-answer-end-in-97 : goal.slice_bounds-answer-end-in-97
slice_bounds-answer-end-in-97 c = search (rules, taken)

pub slice_bounds-answer-end-in-97-3 : goal.slice_bounds-answer-end-in-97-3
slice_bounds-answer-end-in-97-3 c = search (rules, taken)
