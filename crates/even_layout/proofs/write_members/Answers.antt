-- `even_layout::write_members` meets its contract: after p turns the set's messages from p on are still to be written.
use mathlib.Core.Path.{◌≡◌, refl}
use Prim.Native.Nat.{◌-◌}
use native.Mathlib.Omega.{arith}
use Rattle.lists.proofs.Writing.{pending-byte, pending-as, pending-ends, pending_done}
use Rattle.even_places.specs.Rule.{members}
use Rattle.even_sets.specs.Sets.{set_in}
use Rattle.even_layout.proofs.Bytes.{members_kept, members-skipped}
use Rattle.even_layout.proofs.write_members.Goals as goal
use Rattle.even_layout.proofs.write_members.Goals.{then-rest-eq1, else-rest-eq1}

pub bounds-out-end : goal.bounds-out-end
bounds-out-end c = let p = rw (members_kept c.args.k c.loop-p.p c.loop-p.rest (omega arith) c.if-rest-eq1.true) at c.loop-p.invariant in
    omega (arith, p.room)

pub loop-p-preserved : goal.loop-p-preserved
loop-p-preserved c =
    let k = c.args.k in
    let p = c.loop-p.p in
    let rest = c.loop-p.rest in
    elim c.if-rest-eq1.branch [
      | then-rest-eq1 w ↦ pending-as w.end-is refl w.out-is (pending-byte (rw (members_kept k p rest (omega arith) w.if-rest-eq1.true) at c.loop-p.invariant))
      | else-rest-eq1 w ↦ pending-as w.end-is refl w.out-is (rw (members-skipped k p rest (omega arith) w.if-rest-eq1.false) at c.loop-p.invariant)
    ]

pub returns : goal.returns
unfolding members set_in
returns c = let none : c.args.k - c.loop-p.p ≡ 0 = omega arith in
    let p = rw none at c.loop-p.invariant in
    (pending-ends p, pending_done p)
