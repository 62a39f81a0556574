-- `even_query::Walk::write_sets` meets its contract: before each turn the places of the sets from its own on are still to be written, by the counts so far.
use mathlib.Core.Path.{◌≡◌, refl, ap, ◌∙◌}
use mathlib.Core.List.{List, []}
use Prim.Native.Nat.{ℕ, suc, ◌+◌, ◌-◌, ◌/◌, ◌%◌, ◌^◌, ◌≤◌, ◌<◌}
use native.Mathlib.Numerals.{add-one}
use native.Mathlib.Omega.{arith}
use lib.Count.{ones as count}
use lib.Dec.{eqb}
use lib.ListN.{length, get_or, drop, length-map}
use Rattle.lists.proofs.Below.{below-zeros}
use Rattle.lists.proofs.Writing.{pending-start, pending-as, pending_done}
use Rattle.even_places.specs.Rule.{byte_of, all_sets}
use Rattle.even_sets.specs.Sets.{set_in}
use Rattle.even_sets.proofs.Blocks.{all-length, subsets-few}
use Rattle.even_ranks.specs.Counts.{counter, no_counts, Stands}
use Rattle.even_ranks.specs.Walk.{sets_places}
use Rattle.even_ranks.proofs.Counters.{counted-length}
use Rattle.even_ranks.proofs.Steps.{stands_at, stands-count, stands_set, Lent, lent, counted-below}
use Rattle.even_query.proofs.Rows.{sets-done, SetTurn, set-turn}
use Rattle.even_query.proofs.Walk.write_sets.Goals as goal
use Rattle.even_query.proofs.Walk.write_sets.Goals.{In-loop-set}

-- in the turn of one set: its byte stands for it, and the counters from `from` on are lent for it
stands_here : (c : In-loop-set) → let a = c.args in
    let byte = get_or a.sets.now c.loop-set.set-index 0 in
    Stands a.self.now.messages byte × (set_in a.self.now.messages byte ≡ get_or (all_sets a.self.now.messages) c.loop-set.set-index [])
stands_here c = let a = c.args in
    let bounds = c.args.self.now.asks.bounds in
    stands_at a.self.now.messages c.loop-set.set-index a.sets.now bounds.messages-low bounds.messages-high c.requires.0 (omega arith)

inside : (c : In-loop-set) → c.loop-set.set-index < length (all_sets c.args.self.now.messages)
inside c = omega (arith, ap length c.requires.0, length-map (all_sets c.args.self.now.messages) byte_of)

module _ (c : In-loop-set) {from : ℕ} (at : from ≡ counter (eqb (get_or c.args.sets.now c.loop-set.set-index 0 / 2 ^ c.args.self.now.wanted % 2) 1) (count (get_or c.args.sets.now c.loop-set.set-index 0) - 1) 0) where
  lent-here : Lent c.args.self.now.messages c.args.self.now.wanted (get_or c.args.sets.now c.loop-set.set-index 0) from
  lent-here = lent c.args.self.now.messages c.args.self.now.wanted (get_or c.args.sets.now c.loop-set.set-index 0) from c.args.self.now.asks.bounds.messages-high (stands_here c).0 at

  turn-here : let a = c.args in
      SetTurn a.self.now.servers a.self.now.messages a.self.now.wanted a.self.now.server (get_or a.sets.now c.loop-set.set-index 0) c.loop-set.set-index from a.self.now.totals.now c.loop-set.counts
      0 (sets_places a.self.now.servers a.self.now.wanted a.self.now.server a.self.now.totals.now no_counts (all_sets a.self.now.messages)) a.out.now c.loop-set.end c.loop-set.out
  turn-here = set-turn lent-here c.loop-set.invariant.0 (inside c) (stands_here c).1 c.loop-set.invariant.2 c.loop-set.invariant.3

pub loop-set-init : goal.loop-set-init
unfolding no_counts
loop-set-init c = (refl, below-zeros 1 128 (omega arith), c.requires.1, pending-start (omega (arith, c.requires.2)))

pub counters_of-at-requires : goal.counters_of-at-requires
counters_of-at-requires c = let a = c.args in
    let asks = c.args.self.now.asks in
    let stands = (stands_here (goal.at.counters_of-at-requires c).In-loop-set).0 in (
      omega (arith, asks.message, asks.bounds.messages-high),
      omega (arith, stands-count a.self.now.messages (get_or a.sets.now c.loop-set.set-index 0) stands, stands.some),
    )

pub overflow_add-at : goal.overflow_add-at
overflow_add-at c = omega (arith, (lent-here (goal.at.overflow_add-at c).In-loop-set c.counters_of-at.ensures).fits)

pub offset_bounds-counts-at : goal.offset_bounds-counts-at
offset_bounds-counts-at c = omega (arith, (lent-here (goal.at.offset_bounds-counts-at c).In-loop-set c.counters_of-at.ensures).fits)

pub slice_bounds-write_set-end : goal.slice_bounds-write_set-end
slice_bounds-write_set-end c = omega (arith, (lent-here (goal.at.slice_bounds-write_set-end c).In-loop-set c.counters_of-at.ensures).fits, c.loop-set.invariant.0)

pub write_set-end-requires : goal.write_set-end-requires
write_set-end-requires c = let here = (goal.at.write_set-end-requires c).In-loop-set in
    let t = turn-here here c.counters_of-at.ensures in
    ((stands_here here).0, t.ranks-long, t.small, t.room)

pub count_set-requires : goal.count_set-requires
count_set-requires c = let here = (goal.at.count_set-requires c).In-loop-set in
    let a = c.args in
    let asks = c.args.self.now.asks in
    let few : c.loop-set.set-index ≤ 255 = omega (arith, inside here, all-length a.self.now.messages, subsets-few a.self.now.messages asks.bounds.messages-high) in
    (asks.bounds.messages-high, asks.message, (stands_here here).0, c.loop-set.invariant.0, (λ j h. omega (arith, c.loop-set.invariant.1 j h)))

pub loop-set-preserved : goal.loop-set-preserved
loop-set-preserved c = let here = (goal.at.loop-set-preserved c).In-loop-set in
    let a = c.args in
    let i = c.loop-set.set-index in
    let byte = get_or a.sets.now i 0 in
    let A = set_in a.self.now.messages byte in
    let t = turn-here here c.counters_of-at.ensures in
    let next = c.count_set.ensures in (
      ap length next
          ∙ counted-length a.self.now.messages a.self.now.wanted c.args.self.now.asks.bounds.messages-high A c.loop-set.counts
          (stands_set a.self.now.messages byte (stands_here here).0) c.loop-set.invariant.0,
      rw (next, add-one i) (counted-below (suc i) a.self.now.wanted A c.loop-set.counts c.loop-set.invariant.1),
      rw next t.rest-small,
      pending-as c.write_set-end.ensures.0
          (ap (λ (d : List ℕ). sets_places a.self.now.servers a.self.now.wanted a.self.now.server a.self.now.totals.now d (drop (i + 1) (all_sets a.self.now.messages))) next) c.write_set-end.ensures.1 t.rest,
    )

pub returns : goal.returns
returns c = let a = c.args in
    let all : length (all_sets a.self.now.messages) ≤ c.loop-set.set-index = omega (arith, ap length c.requires.0, length-map (all_sets a.self.now.messages) byte_of) in
    pending_done (rw (sets-done a.self.now.servers a.self.now.wanted a.self.now.server a.self.now.totals.now c.loop-set.counts (all_sets a.self.now.messages) c.loop-set.set-index all) at c.loop-set.invariant.3)
