-- `even_locate::locate` meets its contract: after i turns no row of the sets before names the symbol, and the rows of the sets from i on decide.
use mathlib.Core.Path.{◌≡◌, sym, ap, ◌∙◌}
use mathlib.Core.Bool.{true}
use mathlib.Core.List.{List, [], map, append-nil}
use Prim.Native.Nat.{ℕ, ◌+◌, ◌-◌, ◌*◌, ◌^◌, ◌≤◌, ◌<◌}
use native.Mathlib.Nat.{zero-add}
use native.Mathlib.Omega.{arith}
use lib.Count.{ones as count}
use lib.ListN.{length, get_or, take, drop, replicate, length-drop, length-replicate}
use lib.Seq.{length-take-le}
use Rattle.lists.proofs.Cuts.{to_end}
use Rattle.parameters.specs.Bounds.{even_fits}
use Rattle.parameters.specs.Measures.{even_sizes}
use Rattle.parameters.proofs.Bounds.{even-bounds}
use Rattle.parameters.proofs.SmallSizes.{even-small}
use Rattle.even_places.specs.Rule.{byte_of, all_sets, layout}
use Rattle.even_scheme.proofs.Answers.{layout-length}
use Rattle.even_sets.specs.Sets.{set_in}
use Rattle.even_sets.proofs.Blocks.{subsets-few}
use Rattle.even_sets.proofs.Fits.{layout-fits}
use Rattle.even_sets.proofs.SetBytes.{byte_at}
use Rattle.even_layout.proofs.Tables.{positions_from}
use Rattle.even_layout.proofs.RowRuns.{rows_from, rows_all_lem, rows_none, numbers-all}
use Rattle.std.specs.Prelude.{Option, Some, None}
use Rattle.scheme.specs.Asked.{later, place_naming}
use Rattle.even_scheme.specs.Asked.{set_rows, layout_rows}
use Rattle.even_scheme.proofs.Asks.{sets-many}
use Rattle.scheme.proofs.Places.{or_later, place-within, later-zero, later-twice}
use Rattle.even_locate.proofs.Scan.{Turn, sets-taken, sets-counted, set-turn, set-decides}
use Rattle.even_locate.proofs.locate.Goals as goal
use Rattle.even_locate.proofs.locate.Goals.{After-rows_of-rows, After-set_place}

-- set i of those that are gone over
abbrev set_at : ℕ → List ℕ → ℕ → ℕ
set_at power sets i = get_or (take (power - 1) sets) i 0

-- the turn at hand
turn : (c : After-rows_of-rows) → let a = c.args in
    Turn a.n a.k a.s a.query.now c.loop-set.set-index c.loop-set.at c.loop-set.end
    (set_at c.power-count.result c.ordered_sets-sets.result c.loop-set.set-index) c.rows_of-rows.result
turn c =
    let a = c.args in
    let inside : c.loop-set.set-index < length (all_sets a.k) =
    omega (arith, sets-counted a.k c.power-count.result c.ordered_sets-sets.result c.power-count.ensures c.ordered_sets-sets.ensures) in
    set-turn a.n a.k a.s a.query.now (take (c.power-count.result - 1) c.ordered_sets-sets.result) c.loop-set.set-index c.loop-set.at c.loop-set.end
    c.rows_of-rows.result (layout-fits a.n a.k a.s c.requires.s_value)
    (sets-taken a.k c.power-count.result c.ordered_sets-sets.result c.power-count.ensures c.ordered_sets-sets.ensures) inside c.rows_of-rows.ensures
    c.loop-set.invariant.0 c.loop-set.invariant.1

-- an answer's bytes
slot-small : (n k s : ℕ) → even_fits n k s ≡ true → length (layout n k) * s < 2 ^ 32
unfolding even_sizes
slot-small n k s fits =
    let b = even-bounds n k s fits in
    omega (arith, (even-small n k s b).slot, ap (λ (m : ℕ). m * s) (layout-length n k b.servers-low b.messages-low))

-- what the set's rows tell
seen : (c : After-set_place) → let a = c.args in
    place_naming a.s a.message a.symbol
    (set_rows (replicate c.rows_of-rows.result (set_in a.k (set_at c.power-count.result c.ordered_sets-sets.result c.loop-set.set-index)))
    (drop c.loop-set.at a.query.now))
    ≡ c.set_place.result
seen c =
    let a = c.args in
    let sets = replicate c.rows_of-rows.result (set_in a.k (set_at c.power-count.result c.ordered_sets-sets.result c.loop-set.set-index)) in
    sym (c.set_place.ensures ∙ ap (λ (l : List ℕ). place_naming a.s a.message a.symbol (set_rows sets l)) (to_end a.query.now c.loop-set.at))

-- the set's rows tell, or those after them
told : (c : After-set_place) (place : Option ℕ) → let a = c.args in
    let set = set_at c.power-count.result c.ordered_sets-sets.result c.loop-set.set-index in
    Turn a.n a.k a.s a.query.now c.loop-set.set-index c.loop-set.at c.loop-set.end set c.rows_of-rows.result
    → c.set_place.result ≡ place
    → place_naming a.s a.message a.symbol (layout_rows a.n a.k a.query.now)
    ≡ later c.loop-set.end (or_later (c.rows_of-rows.result * a.s) place
    (place_naming a.s a.message a.symbol (set_rows (rows_from a.n a.k (c.loop-set.set-index + 1))
    (drop (c.loop-set.at + c.rows_of-rows.result * count set) a.query.now))))
told c place turn e =
    let a = c.args in
    set-decides a.n a.k a.s a.message a.symbol a.query.now c.loop-set.set-index c.loop-set.at c.loop-set.end
    (set_at c.power-count.result c.ordered_sets-sets.result c.loop-set.set-index) c.rows_of-rows.result
    (place_naming a.s a.message a.symbol (layout_rows a.n a.k a.query.now)) place turn c.loop-set.invariant.2 (seen c ∙ e)

pub ordered_sets-sets-requires : goal.ordered_sets-sets-requires
ordered_sets-sets-requires c = (even-bounds c.args.n c.args.k c.args.s c.requires.s_value).messages-high

pub power-count-requires : goal.power-count-requires
power-count-requires c = let k = c.args.k in
    omega (arith, subsets-few k (even-bounds c.args.n k c.args.s c.requires.s_value).messages-high)

pub slice_bounds-sets-end : goal.slice_bounds-sets-end
slice_bounds-sets-end c = let k = c.args.k in
    omega (arith, c.power-count.ensures, subsets-few k (even-bounds c.args.n k c.args.s c.requires.s_value).messages-high)

pub slice_bounds-set-items-end : goal.slice_bounds-set-items-end
slice_bounds-set-items-end c = let k = c.args.k in
    let few : c.power-count.result - 1 ≤ length c.ordered_sets-sets.result =
    omega (arith, c.power-count.ensures, subsets-few k (even-bounds c.args.n k c.args.s c.requires.s_value).messages-high) in
    sym (length-take-le (c.power-count.result - 1) c.ordered_sets-sets.result few)

pub loop-set-init : goal.loop-set-init
unfolding even_sizes
loop-set-init c = let a = c.args in
    let bounds = layout-fits a.n a.k a.s c.requires.s_value in
    let place = place_naming a.s a.message a.symbol (layout_rows a.n a.k a.query.now) in (
      zero-add (length (positions_from a.n a.k 0)) ∙ numbers-all a.n a.k bounds ∙ sym c.requires.query_len,
      rw (rows_all_lem a.n a.k) (zero-add (length (layout a.n a.k) * a.s)),
      rw (rows_all_lem a.n a.k) (sym (later-zero place)),
    )

pub rows_of-rows-requires : goal.rows_of-rows-requires
rows_of-rows-requires c =
    let a = c.args in
    let bounds = layout-fits a.n a.k a.s c.requires.s_value in
    let inside : c.loop-set.set-index < length (all_sets a.k) =
    omega (arith, sets-counted a.k c.power-count.result c.ordered_sets-sets.result c.power-count.ensures c.ordered_sets-sets.ensures) in
    let b = byte_at a.n a.k c.loop-set.set-index (take (c.power-count.result - 1) c.ordered_sets-sets.result) [] bounds
    (sets-taken a.k c.power-count.result c.ordered_sets-sets.result c.power-count.ensures c.ordered_sets-sets.ensures
    ∙ sym (append-nil (map byte_of (all_sets a.k)))) inside in
    (omega (arith, bounds.servers-low), b.some, omega (arith, b.rows, b.high))

pub set_place-requires : goal.set_place-requires
set_place-requires c =
    let a = c.args in
    let t = turn (goal.at.set_place-requires c).After-rows_of-rows in
    let query = a.query.now in record {
      set_value = (t.ones-in, rw (to_end query c.loop-set.at) (omega (arith, length-drop c.loop-set.at query, t.read)));
      s_bound = omega (arith, t.placed, slot-small a.n a.k a.s c.requires.s_value);
    }

pub overflow_add-result : goal.overflow_add-result
overflow_add-result c =
    let a = c.args in
    let t = turn (goal.at.overflow_add-result c).After-rows_of-rows in
    let sets = replicate c.rows_of-rows.result (set_in a.k (set_at c.power-count.result c.ordered_sets-sets.result c.loop-set.set-index)) in
    let numbers = drop c.loop-set.at a.query.now in
    let many : length (set_rows sets numbers) * a.s ≡ c.rows_of-rows.result * a.s =
    ap (λ (n : ℕ). n * a.s) (sets-many sets numbers ∙ length-replicate c.rows_of-rows.result _) in
    omega (
      arith,
      place-within a.s a.message a.symbol (set_rows sets numbers) c.in-Some.place
          (seen (goal.at.overflow_add-result c).After-set_place ∙ c.in-Some.is),
      many,
      t.placed,
      slot-small a.n a.k a.s c.requires.s_value,
    )

pub returns-in-Some : goal.returns-in-Some
returns-in-Some c =
    sym
    (told (goal.at.returns-in-Some c).After-set_place (Some c.in-Some.place) (turn (goal.at.returns-in-Some c).After-rows_of-rows) c.in-Some.is)

pub overflow_mul-at : goal.overflow_mul-at
overflow_mul-at c = omega (arith, (turn (goal.at.overflow_mul-at c).After-rows_of-rows).read)

pub overflow_add-at : goal.overflow_add-at
overflow_add-at c = omega (arith, (turn (goal.at.overflow_add-at c).After-rows_of-rows).read)

pub overflow_mul-end : goal.overflow_mul-end
overflow_mul-end c = let a = c.args in
    omega (arith, (turn (goal.at.overflow_mul-end c).After-rows_of-rows).placed, slot-small a.n a.k a.s c.requires.s_value)

pub overflow_add-end : goal.overflow_add-end
overflow_add-end c = let a = c.args in
    omega (arith, (turn (goal.at.overflow_add-end c).After-rows_of-rows).placed, slot-small a.n a.k a.s c.requires.s_value)

pub loop-set-preserved : goal.loop-set-preserved
loop-set-preserved c =
    let a = c.args in
    let t = turn (goal.at.loop-set-preserved c).After-rows_of-rows in
    let rest = place_naming a.s a.message a.symbol (set_rows (rows_from a.n a.k (c.loop-set.set-index + 1))
    (drop (c.loop-set.at + c.rows_of-rows.result * count (set_at c.power-count.result c.ordered_sets-sets.result c.loop-set.set-index))
    a.query.now)) in (
      t.read,
      t.placed,
      told (goal.at.loop-set-preserved c).After-set_place None t c.in_default.is ∙ later-twice c.loop-set.end (c.rows_of-rows.result * a.s) rest,
    )

pub returns : goal.returns
unfolding set_rows place_naming
returns c = let a = c.args in
    let over : length (all_sets a.k) ≤ c.loop-set.set-index =
    omega (arith, sets-counted a.k c.power-count.result c.ordered_sets-sets.result c.power-count.ensures c.ordered_sets-sets.ensures) in
    sym (rw (rows_none a.n a.k c.loop-set.set-index over) at c.loop-set.invariant.2)
