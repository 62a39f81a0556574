-- `even_answer::Stored::answer_set` meets its contract: after `row` turns the answers to the rows from there on are still to be written.
use mathlib.Core.Path.{◌≡◌, refl, ap, ◌∙◌}
use mathlib.Core.List.{List, ◌++◌}
use Prim.Native.Nat.{ℕ, ◌+◌, ◌-◌, ◌*◌, ◌≤◌}
use native.Mathlib.Nat.{sub-zero, zero-mul}
use native.Mathlib.Omega.{arith}
use lib.Count.{ones as count}
use lib.ListN.{length, take, drop, replicate}
use Rattle.lists.proofs.Cuts.{to_end}
use Rattle.lists.proofs.Puts.{put-part}
use Rattle.lists.proofs.Writing.{pending-start, pending-as, pending_done}
use Rattle.symbol.specs.Operations.{sum_of}
use Rattle.symbol.proofs.Operations.{group_of}
use Rattle.even_scheme.specs.Even.{row_answer, row_answers}
use Rattle.even_sets.specs.Sets.{set_in}
use Rattle.even_sets.proofs.SetBytes.{set_in-length}
use Rattle.even_answer.proofs.SetRows.{set-length}
use Rattle.even_answer.proofs.Turns.{row-long, row_done}
use Rattle.even_answer.proofs.Stored.answer_set.Goals as goal

pub loop-row-init : goal.loop-row-init
loop-row-init c = let n = c.args.self.now.servers in
    let k = c.args.self.now.messages in
    let s = c.args.self.now.symbol in
    let store = c.args.self.now.store.now in
    let rows = c.args.rows in
    let A = set_in k c.args.set in
    let numbers = c.args.numbers.now in
    let given = c.requires.0 in
    let keeps = (group_of c.args.self.now.op s).plus-length in
    let long = set-length (sum_of c.args.self.now.op) n k s store keeps A rows numbers given.whole (set_in-length k c.args.set) given.named in
    let room : 0 + length (row_answers (sum_of c.args.self.now.op) n k s store (replicate rows A) numbers) ≤ length c.args.out.now =
    omega (arith, c.requires.1) in
    pending-as (zero-mul s) (rw (sub-zero rows, zero-mul (count c.args.set)) refl) refl (pending-start room)

pub loop-row-preserved : goal.loop-row-preserved
loop-row-preserved c = let s = c.args.self.now.symbol in
    let from = c.loop-row.row * s in
    let out = c.loop-row.out in
    let numbers = c.args.numbers.now in
    let read = c.loop-row.row * count c.args.set in
    let answered = row_answer (sum_of c.args.self.now.op) c.args.self.now.servers c.args.self.now.messages s c.args.self.now.store.now
    (set_in c.args.self.now.messages c.args.set) in
    let bytes = c.args.self.now.bytes in
    let made = c.answer_row.ensures ∙ ap answered (to_end numbers read) in
    pending-as refl refl
    (ap (λ (l : List ℕ). take from out ++ (l ++ drop (from + s - from) (drop from out))) made
    ∙ put-part from s (answered (drop read numbers)) out (row-long (group_of c.args.self.now.op s) c.requires.0 bytes c.loop-row.row))
    (row_done (group_of c.args.self.now.op s) c.requires.0 bytes c.loop-row.row (omega arith) c.loop-row.invariant)

pub returns : goal.returns
unfolding row_answers
returns c = let none : c.args.rows - c.loop-row.row ≡ 0 = omega arith in
    pending_done (rw none at c.loop-row.invariant)
