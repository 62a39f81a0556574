-- `even_layout::write_rows` meets its contract: before each turn as many rows are still to be written as turns are left.
use mathlib.Core.Path.{◌≡◌, refl}
use mathlib.Core.List.{flat_map}
use Prim.Native.Nat.{◌+◌, ◌-◌}
use native.Mathlib.Omega.{arith}
use lib.ListN.{replicate, length-append}
use Rattle.lists.proofs.Writing.{pending-part, pending-as, pending-ends, pending_done}
use Rattle.even_places.specs.Rule.{members}
use Rattle.even_sets.specs.Sets.{set_in}
use Rattle.even_layout.proofs.Bytes.{rows_more}
use Rattle.even_layout.proofs.write_rows.Goals as goal

pub write_members-end-requires : goal.write_members-end-requires
write_members-end-requires c = let A = set_in c.args.k c.args.set in
    let count = c.args.count in
    let p = rw (rows_more A count c.loop.counter (omega arith)) at c.loop.invariant in
    let many = length-append (members 0 A) (flat_map (members 0) (replicate (count - (c.loop.counter + 1)) A)) in
    (c.requires.0, omega (arith, p.room))

pub loop-preserved : goal.loop-preserved
loop-preserved c = let A = set_in c.args.k c.args.set in
    let count = c.args.count in
    let p = rw (rows_more A count c.loop.counter (omega arith)) at c.loop.invariant in
    let left = flat_map (members 0) (replicate (count - (c.loop.counter + 1)) A) in
    pending-as c.write_members-end.ensures.0 refl c.write_members-end.ensures.1 (pending-part (members 0 A) left p)

pub returns : goal.returns
unfolding flat_map
returns c = let none : c.args.count - c.loop.counter ≡ 0 = omega arith in
    let p = rw none at c.loop.invariant in
    (pending-ends p, pending_done p)
