-- `parameters::power` meets its contract: after so many turns the result is that power.
use Rattle.std.proofs.Common.{◌≡◌, ◌^◌}
use Rattle.parameters.proofs.power.Given as goal

abbrev pub invariant-loop : goal.invariant-loop
invariant-loop l = l.result ≡ l.base ^ l.counter
