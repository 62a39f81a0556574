-- `even_layout::positions` meets its contract: before each turn the positions of the sets from its own on are still to be written.
use mathlib.Core.Path.{refl, ap, ◌∙◌}
use mathlib.Core.List.{[]}
use Prim.Native.Nat.{ℕ, ◌+◌, ◌≤◌, ◌<◌}
use native.Mathlib.Omega.{arith}
use lib.ListN.{length, get_or, replicate, length-append}
use Rattle.lists.proofs.Writing.{pending-start, pending-part, pending-as, pending_done}
use Rattle.lists.proofs.Puts.{put-padded}
use Rattle.even_places.specs.Rule.{all_sets, positions}
use Rattle.even_sets.proofs.SetBytes.{front-length, front-byte}
use Rattle.even_layout.proofs.Tables.{set_positions, set-positions, positions_from, positions-all, positions-none, positions-more, positions-room}
use Rattle.even_layout.proofs.positions.Goals as goal

pub loop-set-init : goal.loop-set-init
loop-set-init c = let room : 0 + length (positions c.args.n c.args.k) ≤ length (replicate {A = ℕ} 1024 0) =
    omega (arith, positions-room c.args.n c.args.k c.requires) in
    rw (positions-all c.args.n c.args.k) (pending-start room)

pub rows_of-requires : goal.rows_of-requires
rows_of-requires c =
    let s = front-byte c.args.k c.power-count.ensures c.ordered_sets-sets.ensures c.requires c.loop-set.set-index c.loop-set-test.true in
    (omega (arith, c.requires.servers-low), s.some, omega (arith, s.rows, s.high))

pub write_rows-at-requires : goal.write_rows-at-requires
write_rows-at-requires c = let n = c.args.n in
    let k = c.args.k in
    let i = c.loop-set.set-index in
    let A = get_or (all_sets k) i [] in
    let inside : i < length (all_sets k) =
    omega (arith, front-length c.args.k c.power-count.ensures c.ordered_sets-sets.ensures) in
    let s = front-byte c.args.k c.power-count.ensures c.ordered_sets-sets.ensures c.requires i c.loop-set-test.true in
    let rows = set-positions n k _ c.rows_of.result A s c.rows_of.ensures in
    let p = rw (positions-more n k i inside) at c.loop-set.invariant in
    let many = length-append (set_positions n A) (positions_from n k (i + 1)) in
    (c.requires.messages-high, omega (arith, p.room, ap length rows))

pub loop-set-preserved : goal.loop-set-preserved
loop-set-preserved c = let n = c.args.n in
    let k = c.args.k in
    let i = c.loop-set.set-index in
    let A = get_or (all_sets k) i [] in
    let inside : i < length (all_sets k) =
    omega (arith, front-length c.args.k c.power-count.ensures c.ordered_sets-sets.ensures) in
    let s = front-byte c.args.k c.power-count.ensures c.ordered_sets-sets.ensures c.requires i c.loop-set-test.true in
    let rows = set-positions n k _ c.rows_of.result A s c.rows_of.ensures in
    let p = rw (positions-more n k i inside) at c.loop-set.invariant in
    pending-as (rw rows at c.write_rows-at.ensures.0) refl (rw rows at c.write_rows-at.ensures.1) (pending-part (set_positions n A) (positions_from n k (i + 1)) p)

pub returns : goal.returns
returns c = let n = c.args.n in
    let k = c.args.k in
    let all : length (all_sets k) ≤ c.loop-set.set-index =
    omega (arith, front-length c.args.k c.power-count.ensures c.ordered_sets-sets.ensures) in
    pending_done (rw (positions-none n k c.loop-set.set-index all) at c.loop-set.invariant) ∙ put-padded (positions n k) 1024
