-- `round_code::rows::row_starts` meets its contract: each start is what its closure gives.
use Rattle.std.proofs.Common.{rules, tests}
use Rattle.short_rows.proofs.Made.{made-all}
use Rattle.round_code.specs.Steps.{start_of}
use Rattle.round_code.proofs.rows.row_starts.Goals as goal

pub returns : goal.returns
returns c = made-all _ (start_of c.args.slot c.args.before c.args.behind) _ (λ m y q k. search (rules, tests)) c.from_fn.result 16 c.from_fn.ensures.items
