-- `even_answer::answer` meets its contract: before each turn the answers to the rows of the sets from its own on are still to be written.
use mathlib.Core.Path.{refl, sym, ap, ap₂, ◌∙◌}
use mathlib.Core.List.{List, ◌++◌}
use Prim.Native.Nat.{ℕ, ◌+◌, ◌-◌, ◌*◌, ◌≤◌, ◌<◌}
use native.Mathlib.Nat.{zero-add}
use native.Mathlib.Omega.{arith}
use lib.ListN.{length, get_or, take, drop, replicate, length-drop}
use Rattle.lists.specs.Parts.{put}
use Rattle.lists.proofs.Writing.{pending-start, pending-as, pending_done}
use Rattle.lists.proofs.Cuts.{to_end}
use Rattle.lists.proofs.Puts.{rest-written}
use Rattle.parameters.specs.Measures.{even_sizes}
use Rattle.parameters.proofs.Bounds.{even-bounds}
use Rattle.symbol.specs.Operations.{sum_of}
use Rattle.symbol.proofs.Operations.{group_of}
use Rattle.even_places.specs.Rule.{all_sets, layout}
use Rattle.even_places.proofs.AllSets.{layout-long}
use Rattle.even_scheme.specs.Even.{row_answers, even_answer}
use Rattle.even_scheme.proofs.Answers.{layout-length, answers-length}
use Rattle.even_sets.specs.Sets.{set_in}
use Rattle.even_sets.proofs.Blocks.{subsets-few, all-length}
use Rattle.even_sets.proofs.Fits.{layout-fits}
use Rattle.even_sets.proofs.SetBytes.{front-length, front-byte}
use Rattle.even_layout.proofs.Tables.{positions_from}
use Rattle.even_layout.proofs.RowRuns.{rows_all_lem, rows_none, numbers-all}
use Rattle.even_answer.proofs.Turns.{SetTurn, set-turn}
use Rattle.even_answer.proofs.answer.Goals as goal
use Rattle.even_answer.proofs.answer.Goals.{After-rows_of-rows}

-- the turn of one set
turn-of : (c : After-rows_of-rows) → let args = c.args in
    SetTurn (sum_of args.op) args.n args.k args.s args.store.now args.query.now args.out.now c.loop-set.set-index c.loop-set.at c.loop-set.end
    (get_or (take (c.power-count.result - 1) c.ordered_sets-sets.result) c.loop-set.set-index 0) c.rows_of-rows.result c.loop-set.out
turn-of c = let k = c.args.k in
    let i = c.loop-set.set-index in
    let inside : i < length (all_sets k) = omega (arith, front-length k c.power-count.ensures c.ordered_sets-sets.ensures) in
    let b = front-byte k c.power-count.ensures c.ordered_sets-sets.ensures (layout-fits c.args.n k c.args.s c.requires.fits) i c.loop-set-test.true in
    set-turn i c.loop-set.at (group_of c.args.op c.args.s).plus-length c.requires b inside c.rows_of-rows.ensures c.loop-set.invariant.0 c.loop-set.invariant.1

pub power-requires : goal.power-requires
power-requires c = omega (arith, (even-bounds c.args.n c.args.k c.args.s c.requires.fits).symbols-high)

pub ordered_sets-sets-requires : goal.ordered_sets-sets-requires
ordered_sets-sets-requires c = (even-bounds c.args.n c.args.k c.args.s c.requires.fits).messages-high

pub power-count-requires : goal.power-count-requires
power-count-requires c = let k = c.args.k in
    omega (arith, subsets-few k (even-bounds c.args.n k c.args.s c.requires.fits).messages-high)

pub loop-set-init : goal.loop-set-init
unfolding even_answer even_sizes
loop-set-init c = let n = c.args.n in
    let k = c.args.k in
    let s = c.args.s in
    let store = c.args.store.now in
    let query = c.args.query.now in
    let given = c.requires in
    let bounds = layout-fits n k s given.fits in
    let keeps = (group_of c.args.op s).plus-length in
    let long = answers-length (sum_of c.args.op) n k s keeps store given.whole (layout-long n k) query given.named in
    let room : 0 + length (row_answers (sum_of c.args.op) n k s store (layout n k) query) ≤ length c.args.out.now =
    omega (arith, ap (λ (m : ℕ). m * s) (layout-length n k bounds.servers-low bounds.messages-low), given.room) in
    (zero-add (length (positions_from n k 0)) ∙ numbers-all n k bounds ∙ sym given.long, rw (rows_all_lem n k) (pending-start room))

pub slice_bounds-sets-end : goal.slice_bounds-sets-end
slice_bounds-sets-end c = let bounds = layout-fits c.args.n c.args.k c.args.s c.requires.fits in
    omega (arith, c.power-count.ensures, subsets-few c.args.k bounds.messages-high)

pub slice_bounds-set-items-end : goal.slice_bounds-set-items-end
slice_bounds-set-items-end c = let k = c.args.k in
    omega (arith, c.power-count.ensures, all-length k, front-length k c.power-count.ensures c.ordered_sets-sets.ensures)

pub rows_of-rows-requires : goal.rows_of-rows-requires
rows_of-rows-requires c = let bounds = layout-fits c.args.n c.args.k c.args.s c.requires.fits in
    let b = front-byte c.args.k c.power-count.ensures c.ordered_sets-sets.ensures bounds c.loop-set.set-index c.loop-set-test.true in
    (omega (arith, bounds.servers-low), b.some, omega (arith, b.rows, b.high))

pub overflow_mul-at : goal.overflow_mul-at
overflow_mul-at c = let turn = turn-of (goal.at.overflow_mul-at c).After-rows_of-rows in omega (arith, turn.read, turn.written)

pub overflow_add-at : goal.overflow_add-at
overflow_add-at c = let turn = turn-of (goal.at.overflow_add-at c).After-rows_of-rows in omega (arith, turn.read, turn.written)

pub overflow_mul-end : goal.overflow_mul-end
overflow_mul-end c = let turn = turn-of (goal.at.overflow_mul-end c).After-rows_of-rows in omega (arith, turn.read, turn.written)

pub overflow_add-end : goal.overflow_add-end
overflow_add-end c = let turn = turn-of (goal.at.overflow_add-end c).After-rows_of-rows in omega (arith, turn.read, turn.written)

pub answer_set-requires : goal.answer_set-requires
answer_set-requires c = let turn = turn-of (goal.at.answer_set-requires c).After-rows_of-rows in (
  rw (to_end c.args.query.now c.loop-set.at) turn.given,
  rw (to_end c.loop-set.out c.loop-set.end) (omega (arith, length-drop c.loop-set.end c.loop-set.out, turn.written)),
)

pub loop-set-preserved : goal.loop-set-preserved
loop-set-preserved c = let turn = turn-of (goal.at.loop-set-preserved c).After-rows_of-rows in
    let end = c.loop-set.end in
    let out = c.loop-set.out in
    let numbers = drop c.loop-set.at c.args.query.now in
    let answered = row_answers (sum_of c.args.op) c.args.n c.args.k c.args.s c.args.store.now
    (replicate c.rows_of-rows.result
    (set_in c.args.k (get_or (take (c.power-count.result - 1) c.ordered_sets-sets.result) c.loop-set.set-index 0))) in
    let made = c.answer_set.ensures ∙ ap₂ (λ (l m : List ℕ). put 0 (answered l) m) (to_end c.args.query.now c.loop-set.at)
    (to_end out end) in (
      turn.read,
      pending-as refl refl
          (ap (λ (l : List ℕ). take end out ++ (l ++ drop (length out - end) (drop end out))) made ∙ rest-written end (answered numbers) out)
          turn.left,
    )

pub returns : goal.returns
unfolding row_answers
returns c = let k = c.args.k in
    let over : length (all_sets k) ≤ c.loop-set.set-index = omega (arith, front-length k c.power-count.ensures c.ordered_sets-sets.ensures) in
    pending_done (rw (rows_none c.args.n k c.loop-set.set-index over) at c.loop-set.invariant.1)
