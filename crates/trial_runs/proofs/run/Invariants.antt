-- `run` ends: each turn goes at least one byte on.
use Rattle.std.proofs.Common.{◌-◌, length}
use Rattle.trial_runs.proofs.run.Given as goal

abbrev pub decreases-loop-at : goal.decreases-loop-at
decreases-loop-at l = length l.text - l.at
