-- `even_answer::Stored::answer_row` meets its contract: after p turns the symbols of the set's messages from p on are still to be combined.
use mathlib.Core.Path.{◌≡◌, refl, sym, ap, ◌∙◌}
use mathlib.Core.List.{zip_with}
use Prim.Native.Nat.{◌+◌, ◌-◌, ◌*◌, ◌/◌, ◌≤◌}
use native.Mathlib.Nat.{sub-zero, zero-add, mul-le-mul}
use native.Mathlib.Omega.{arith}
use borrow.Author.Tests.{ne_eqb}
use lib.Count.{ones as count}
use lib.Dec.{eqb}
use lib.ListN.{length, get_or}
use Rattle.parameters.proofs.Bounds.{even-bounds}
use Rattle.symbol.specs.Sum.{total_from}
use Rattle.symbol.specs.Operations.{sum_of}
use Rattle.symbol.proofs.Operations.{group_of}
use Rattle.even_places.specs.Rule.{members}
use Rattle.even_places.proofs.Positions.{members-length}
use Rattle.even_scheme.specs.Even.{symbol_of, row_answer}
use Rattle.even_sets.specs.Sets.{set_in}
use Rattle.even_layout.proofs.Bytes.{members_from, members_kept, members-skipped}
use Rattle.even_answer.specs.Answering.{added}
use Rattle.even_answer.proofs.RowLaws.{row_more, symbol-place, symbol-is, added-length}
use Rattle.even_answer.proofs.Turns.{SymbolTurn, symbol-turn}
use Rattle.even_answer.proofs.Stored.answer_row.Goals as goal
use Rattle.even_answer.proofs.Stored.answer_row.Goals.{Then-rest-eq1, then-rest-eq1, else-rest-eq1}

-- the turn of a message of the set
turn-of : (c : Then-rest-eq1) → let a = c.args in
    SymbolTurn a.self.now.servers a.self.now.messages a.self.now.symbol a.self.now.store.now a.set a.numbers.now a.self.now.symbols c.loop-p.p c.loop-p.taken c.loop-p.rest
turn-of c = symbol-turn c.loop-p.p c.loop-p.taken c.loop-p.rest c.requires.0 c.args.self.now.count (omega arith) c.if-rest-eq1.true c.loop-p.invariant.1

-- the symbols of the messages before it are few
few-before : (c : Then-rest-eq1) → c.loop-p.p * c.args.self.now.symbols ≤ 8 * 256
few-before c = let w = c.args.self.now in
    let bounds = even-bounds w.servers w.messages w.symbol c.requires.0.fits in
    mul-le-mul (let few : c.loop-p.p ≤ 8 = omega (arith, bounds.messages-high) in few)
    (let few : w.symbols ≤ 256 = omega (arith, w.count, bounds.symbols-high) in few)

pub loop-p-init : goal.loop-p-init
unfolding row_answer
loop-p-init c = let k = c.args.self.now.messages in
    let set = c.args.set in (
      c.requires.1,
      rw (sub-zero k) (zero-add (length (members 0 (set_in k set))) ∙ members-length 0 (set_in k set) ∙ c.requires.0.inside),
      rw (sub-zero k) refl,
    )

pub bounds-numbers-taken : goal.bounds-numbers-taken
bounds-numbers-taken c = let turn = turn-of (goal.at.bounds-numbers-taken c).Then-rest-eq1 in
    turn.inside

pub overflow_mul-start : goal.overflow_mul-start
overflow_mul-start c = omega (arith, few-before (goal.at.overflow_mul-start c).Then-rest-eq1)

pub overflow_add-start : goal.overflow_add-start
overflow_add-start c = let here = (goal.at.overflow_add-start c).Then-rest-eq1 in
    let turn = turn-of here in
    let w = c.args.self.now in
    omega (arith, few-before here, turn.number, (even-bounds w.servers w.messages w.symbol c.requires.0.fits).symbols-high)

pub overflow_mul-start-then-rest-eq1 : goal.overflow_mul-start-then-rest-eq1
overflow_mul-start-then-rest-eq1 c = let turn = turn-of (goal.at.overflow_mul-start-then-rest-eq1 c).Then-rest-eq1 in
    omega (arith, turn.room)

pub add_symbol-requires : goal.add_symbol-requires
add_symbol-requires c = let turn = turn-of (goal.at.add_symbol-requires c).Then-rest-eq1 in
    omega (arith, turn.room, c.loop-p.invariant.0)

pub loop-p-preserved : goal.loop-p-preserved
loop-p-preserved c =
    let n = c.args.self.now.servers in
    let k = c.args.self.now.messages in
    let s = c.args.self.now.symbol in
    let sum = sum_of c.args.self.now.op in
    let group = group_of c.args.self.now.op s in
    let store = c.args.self.now.store.now in
    let numbers = c.args.numbers.now in
    let given = c.requires.0 in
    let symbols = c.args.self.now.symbols in
    let p = c.loop-p.p in
    let taken = c.loop-p.taken in
    let rest = c.loop-p.rest in
    let out = c.loop-p.out in
    let bytes = c.args.self.now.bytes in
    elim c.if-rest-eq1.branch [
      | then-rest-eq1 w ↦
          let turn = symbol-turn p taken rest given c.args.self.now.count (omega arith) w.if-rest-eq1.true c.loop-p.invariant.1 in
          let number = get_or numbers taken 0 in
          let x = symbol_of sum n k s store p number in
          let place = symbol-place sum n k s store given.whole symbols p number (length out) c.args.self.now.count c.loop-p.invariant.0 in
          let made : c.if-rest-eq1.out ≡ added sum (eqb taken 0) out x = w.out-is ∙ w.add_symbol.ensures ∙ ap (added sum (eqb taken 0) out) place in
          rw (made, w.taken-is) (
            added-length sum s group.plus-length (eqb taken 0) out x c.loop-p.invariant.0
                (symbol-is sum n k s store given.whole group bytes p number (omega arith) turn.number).long,
            turn.left,
            sym (row_more sum n k s store given.whole group bytes p taken (members_from k (p + 1) (rest / 2)) numbers out (omega arith) turn.inside
                given.named)
                ∙ rw (members_kept k p rest (omega arith) w.if-rest-eq1.true) at c.loop-p.invariant.2,
          )
      | else-rest-eq1 w ↦
          let skipped = members-skipped k p rest (omega arith) w.if-rest-eq1.false in
          rw (w.out-is, w.taken-is) (c.loop-p.invariant.0, rw skipped at c.loop-p.invariant.1, rw skipped at c.loop-p.invariant.2)
    ]

pub returns : goal.returns
unfolding members set_in zip_with total_from
returns c = let none : c.args.self.now.messages - c.loop-p.p ≡ 0 = omega arith in
    let all : c.loop-p.taken + 0 ≡ count c.args.set = rw none at c.loop-p.invariant.1 in
    let later = ne_eqb c.loop-p.taken 0 (λ e. let w : ⊥ = omega (arith, c.requires.0.some) in w) in
    rw later at (rw none at c.loop-p.invariant.2)
