-- `length_text::counted` meets its contract: after i turns the first i lines are taken.
use Rattle.length_text.proofs.Keeping.{Taken}
use Rattle.length_text.proofs.counted.Given as goal

abbrev pub invariant-loop-i : goal.invariant-loop-i
invariant-loop-i l = Taken l.count l.text l.at l.i l.next l.places
