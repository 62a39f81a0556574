-- `even_query::Walk::write_set` meets its contract: after i turns the places of the rows from i on are still to be written.
use mathlib.Core.Path.{◌≡◌, refl, sym, ap, ◌∙◌}
use Prim.Native.Nat.{ℕ, ◌-◌, ◌/◌, ◌%◌, ◌^◌}
use native.Mathlib.Omega.{arith}
use lib.Count.{ones as count}
use lib.Dec.{eqb}
use Rattle.lists.proofs.Writing.{pending-start, pending-as, pending-ends, pending_done}
use Rattle.even_places.specs.Rule.{ones_in}
use Rattle.even_sets.specs.Sets.{set_in}
use Rattle.even_ranks.specs.Walk.{set_places}
use Rattle.even_ranks.proofs.Steps.{stands-count}
use Rattle.even_query.proofs.Steps.{joined-two}
use Rattle.even_query.proofs.Rows.{rows_fit, rows_start, rows-done, RowTurn, row-turn}
use Rattle.even_query.proofs.Walk.write_set.Goals as goal
use Rattle.even_query.proofs.Walk.write_set.Goals.{After-origin-o}

-- the turn of one row
turn_at : (c : After-origin-o) → let a = c.args in
    RowTurn a.self.now.servers a.self.now.messages a.self.now.wanted a.self.now.server a.set c.loop-i.i a.self.now.totals.now a.ranks.now c.origin-o.result
    a.at (set_places a.self.now.servers a.self.now.wanted a.self.now.server a.self.now.totals.now a.ranks.now (set_in a.self.now.messages a.set)) a.out.now c.loop-i.end c.loop-i.out
turn_at c = let a = c.args in
    let asks = c.args.self.now.asks in
    let rows_at : c.rows_of-rows.result ≡ (a.self.now.servers - 1) ^ (ones_in (set_in a.self.now.messages a.set) - 1) =
    c.rows_of-rows.ensures ∙ ap (λ (m : ℕ). (a.self.now.servers - 1) ^ (m - 1)) (stands-count a.self.now.messages a.set c.requires.0) in
    row-turn c.requires.0 asks.bounds.servers-low asks.bounds.messages-high (omega (arith, rows_at)) c.is_joined-joins.ensures c.origin-o.ensures
    c.loop-i.invariant.0 c.loop-i.invariant.1

pub rows_of-rows-requires : goal.rows_of-rows-requires
rows_of-rows-requires c = let a = c.args in
    let asks = c.args.self.now.asks in
    let stands = c.requires.0 in (
      omega (arith, asks.bounds.servers-low),
      omega (arith, stands-count a.self.now.messages a.set stands, stands.some),
      omega (arith, rows_fit a.self.now.servers a.self.now.messages a.set asks.bounds stands),
    )

pub loop-i-init : goal.loop-i-init
loop-i-init c = let a = c.args in
    let all = rows_start a.self.now.servers a.self.now.wanted a.self.now.server a.self.now.totals.now a.ranks.now (set_in a.self.now.messages a.set) in
    (rw all c.requires.2, rw all (pending-start c.requires.3))

pub origin-o-requires : goal.origin-o-requires
origin-o-requires c = let a = c.args in
    let asks = c.args.self.now.asks in
    let stands = c.requires.0 in (
      asks.bounds.servers-low,
      asks.servers-high,
      asks.server-low,
      omega (arith, stands-count a.self.now.messages a.set stands, stands.some),
      (λ e. joined-two (eqb (a.set / 2 ^ a.self.now.wanted % 2) 1) (count a.set) (sym c.is_joined-joins.ensures ∙ e)),
      omega (arith, c.rows_of-rows.ensures),
      rows_fit a.self.now.servers a.self.now.messages a.set asks.bounds stands,
    )

pub write_row-end-requires : goal.write_row-end-requires
write_row-end-requires c = let t = turn_at (goal.at.write_row-end-requires c).After-origin-o in
    (t.within, c.requires.1, t.small, t.room)

pub loop-i-preserved : goal.loop-i-preserved
loop-i-preserved c = let t = turn_at (goal.at.loop-i-preserved c).After-origin-o in
    (t.rest-small, pending-as c.write_row-end.ensures.0 refl c.write_row-end.ensures.1 t.rest)

pub returns : goal.returns
returns c = let rows_at : let a = c.args in
    c.rows_of-rows.result ≡ (a.self.now.servers - 1) ^ (ones_in (set_in a.self.now.messages a.set) - 1) =
    let a = c.args in
    c.rows_of-rows.ensures ∙ ap (λ (m : ℕ). (a.self.now.servers - 1) ^ (m - 1)) (stands-count a.self.now.messages a.set c.requires.0) in
    let a = c.args in
    let done = rows-done a.self.now.servers a.self.now.wanted a.self.now.server a.self.now.totals.now a.ranks.now (set_in a.self.now.messages a.set) c.loop-i.i (omega (arith, rows_at)) in
    let left = rw done at c.loop-i.invariant.1 in
    (pending-ends left, pending_done left)
