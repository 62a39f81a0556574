-- `even_query::Walk::write_row` meets its contract: after p turns the places of the set's messages from p on are still to be written.
use mathlib.Core.Path.{◌≡◌, refl, ap, ◌∙◌}
use Prim.Native.Nat.{ℕ, suc, ◌-◌, ◌<◌}
use native.Mathlib.Omega.{arith}
use lib.ListN.{length, set, length-map}
use Rattle.lists.proofs.Writing.{pending-byte, pending-as, pending-ends, pending_done}
use Rattle.even_places.specs.Rule.{members}
use Rattle.even_sets.specs.Sets.{set_in}
use Rattle.even_layout.proofs.Bytes.{members_kept, members-skipped}
use Rattle.even_ranks.specs.Walk.{origin_place}
use Rattle.even_query.proofs.Walk.write_row.Goals as goal
use Rattle.even_query.proofs.Walk.write_row.Goals.{Then-rest-eq1, then-rest-eq1, else-rest-eq1}

-- message p is in the set: its place is small, and there is room for it
record Turn (place end size : ℕ) : Type 0 where
  small : place < 256
  room : end < size

turn-of : (c : Then-rest-eq1) → let a = c.args in
    let w = a.self.now in
    Turn (origin_place w.servers w.wanted w.totals.now a.ranks.now a.o c.loop-p.p) c.loop-p.end (length c.loop-p.out)
turn-of c =
    let kept = members_kept c.args.self.now.messages c.loop-p.p c.loop-p.rest (omega arith) c.if-rest-eq1.true in
    let small = rw kept at c.loop-p.invariant.0 in
    let left = rw kept at c.loop-p.invariant.1 in
    record { small = small 0 (omega arith); room = omega (arith, left.room) }

pub place-requires : goal.place-requires
place-requires c = (
  c.requires.0,
  omega (arith, c.args.self.now.asks.bounds.messages-high),
  omega (arith, c.requires.1),
  (turn-of (goal.at.place-requires c).Then-rest-eq1).small,
)

pub overflow_cast-out : goal.overflow_cast-out
overflow_cast-out c = omega (arith, c.place.ensures, (turn-of (goal.at.overflow_cast-out c).Then-rest-eq1).small)

pub bounds-out-end : goal.bounds-out-end
bounds-out-end c = (turn-of (goal.at.bounds-out-end c).Then-rest-eq1).room

pub loop-p-preserved : goal.loop-p-preserved
loop-p-preserved c = let a = c.args in
    let p = c.loop-p.p in
    let rest = c.loop-p.rest in
    elim c.if-rest-eq1.branch [
      | then-rest-eq1 w ↦
          let kept = members_kept a.self.now.messages p rest (omega arith) w.if-rest-eq1.true in
          let small = rw kept at c.loop-p.invariant.0 in
          let left = rw kept at c.loop-p.invariant.1 in (
            (λ i h. small (suc i) (omega arith)),
            pending-as w.end-is refl (w.out-is ∙ ap (set c.loop-p.out c.loop-p.end) w.place.ensures) (pending-byte left),
          )
      | else-rest-eq1 w ↦
          let skipped = members-skipped a.self.now.messages p rest (omega arith) w.if-rest-eq1.false in
          (rw skipped at c.loop-p.invariant.0, pending-as w.end-is refl w.out-is (rw skipped at c.loop-p.invariant.1))
    ]

pub returns : goal.returns
unfolding members set_in
returns c = let a = c.args in
    let none : a.self.now.messages - c.loop-p.p ≡ 0 = omega arith in
    let left = rw none at c.loop-p.invariant.1 in
    let many = length-map (members 0 (set_in a.self.now.messages a.set)) (origin_place a.self.now.servers a.self.now.wanted a.self.now.totals.now a.ranks.now a.o) in
    (omega (arith, pending-ends left, many), pending_done left)
