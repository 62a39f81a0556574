-- `session_parts::marks_good` meets its contract: the marks of the places so far are good.
use Rattle.std.proofs.Common.{◌≡◌, true}
use Rattle.lists.specs.Ranges.{every}
use Rattle.session_parts.specs.Marks.{marked, mark_good}
use Rattle.session_parts.proofs.marks_good.Given as goal

abbrev pub invariant-loop-place : goal.invariant-loop-place
invariant-loop-place l = every l.place (λ place. mark_good l.servers place (marked l.issued place) (marked l.taken place)) ≡ true
