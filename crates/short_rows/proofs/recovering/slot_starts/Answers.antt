-- `short_rows::recovering::slot_starts` meets its contract: each start is what its closure gives.
use Prim.Native.Nat.{◌*◌}
use Rattle.std.proofs.Common.{rules, tests}
use Rattle.short_rows.proofs.Made.{made-all}
use Rattle.short_rows.proofs.recovering.slot_starts.Goals as goal

pub returns : goal.returns
returns c = made-all _ (λ i. i * c.args.s) _ (λ i y q k. search (rules, tests)) c.from_fn.result 16 c.from_fn.ensures.items
