-- `Fetch::from_server` meets its contract: before each turn the parts of the sets before it are written, and `cell` is where its rows start.
use mathlib.Core.Path.{ap}
use Prim.Native.Nat.{ℕ, ◌+◌, ◌*◌}
use native.Mathlib.Omega.{arith}
use lib.Count.{ones}
use lib.ListN.{get_or, replicate}
use Rattle.even_recover.proofs.Fetched.{AtHand, set_is, cells-near, set-ready, fetched-more, fetched-done}
use Rattle.parameters.proofs.Bounds.{even-bounds}
use Rattle.even_sets.proofs.Fits.{layout-bounds}
use Rattle.even_query.specs.Query.{Asks}
use Rattle.even_recover.proofs.Sized.{sized}
use Rattle.even_recover.proofs.Started.{at_hand, started-held, fetched-none}
use Rattle.even_recover.proofs.Fetch.from_server.Goals as goal
use Rattle.even_recover.proofs.Fetch.from_server.Goals.{In-loop-set}

-- the server's query, and what else recovery from it reads
hand : (c : In-loop-set) → let f = c.args.self.now in
    AtHand f.servers f.messages f.symbol f.wanted c.args.server f.key.now f.sets.now f.firsts.now c.server_rows_of.result c.query.new.out
hand c = let f = c.args.self.now in
    at_hand f.servers f.messages f.symbol f.wanted c.args.server f.fits f.known c.requires f.key.now f.sets.now f.firsts.now _ _ (replicate 1024 0)
    f.ordered f.table c.server_rows_of.ensures c.query.ensures

pub query-requires : goal.query-requires
query-requires c = let f = c.args.self.now in
    let bounds = even-bounds f.servers f.messages f.symbol f.fits in
    let asks : Asks f.servers f.messages f.wanted c.args.server =
    record { bounds = layout-bounds bounds; servers-high = bounds.servers-high; message = f.known; server-low = c.requires } in
    (asks, f.long, (sized bounds f.known).query-high)

pub invariant_of-answered : goal.invariant_of-answered
invariant_of-answered c = let f = c.args.self.now in
    record {
      held = rw c.server_rows_of.ensures (started-held f.servers f.messages f.symbol f.wanted c.args.server f.fits f.known c.requires f.answers.now f.slots);
    }

pub loop-set-init : goal.loop-set-init
loop-set-init c = fetched-none

pub from_set-requires-clause-ready : goal.from_set-requires-clause-ready
from_set-requires-clause-ready c = set-ready (hand (goal.at.from_set-requires-clause-ready c).In-loop-set) c.loop-set.invariant c.loop-set-test.true

pub rows_of-requires : goal.rows_of-requires
rows_of-requires c = let at = hand (goal.at.rows_of-requires c).In-loop-set in
    let set = set_is at c.loop-set.invariant c.loop-set-test.true in
    (omega (arith, at.reads.bounds.servers-low), set.some, omega (arith, set.rows, set.high))

pub overflow_mul-cell : goal.overflow_mul-cell
overflow_mul-cell c = let at = hand (goal.at.overflow_mul-cell c).In-loop-set in
    rw c.rows_of.ensures (omega (arith, cells-near at c.loop-set.invariant c.loop-set-test.true))

pub overflow_add-cell : goal.overflow_add-cell
overflow_add-cell c = let at = hand (goal.at.overflow_add-cell c).In-loop-set in
    rw c.rows_of.ensures (omega (arith, cells-near at c.loop-set.invariant c.loop-set-test.true))

pub loop-set-preserved : goal.loop-set-preserved
loop-set-preserved c = let at = hand (goal.at.loop-set-preserved c).In-loop-set in
    fetched-more at c.loop-set.invariant c.loop-set-test.true _ _ c.from_set.ensures
    (ap (λ (r : ℕ). c.loop-set.cell + r * ones (get_or c.args.self.now.sets.now c.loop-set.set-index 0)) c.rows_of.ensures)

pub returns : goal.returns
returns c = fetched-done c.loop-set.invariant c.args.self.now.ordered c.loop-set-test.false
