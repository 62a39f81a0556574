-- `even_locate::set_place` meets its contract: after `row` turns none of the rows before names the symbol, and the rows that are left decide.
use mathlib.Core.Path.{◌≡◌, sym, ap, ◌∙◌}
use mathlib.Core.Bool.{Bool, cond}
use mathlib.Core.List.{List, zip}
use Prim.Native.Nat.{ℕ, ◌+◌, ◌-◌, ◌*◌}
use native.Mathlib.Nat.{add-zero, suc-mul}
use native.Mathlib.Numerals.{add-one}
use native.Mathlib.Omega.{arith}
use lib.Count.{ones as count}
use lib.ListN.{drop, replicate, length-drop}
use Rattle.lists.proofs.Cuts.{slot-end, to_end}
use Rattle.even_places.specs.Rule.{members}
use Rattle.even_sets.specs.Sets.{set_in}
use Rattle.even_places.proofs.Positions.{members-length}
use Rattle.std.specs.Prelude.{Some}
use Rattle.scheme.specs.Asked.{named_in, later, place_naming}
use Rattle.even_scheme.specs.Asked.{set_rows}
use Rattle.scheme.proofs.Places.{later-twice}
use Rattle.even_locate.proofs.Scan.{row_next}
use Rattle.even_locate.proofs.set_place.Goals as goal
use Rattle.even_locate.proofs.set_place.Goals.{After-row_names}

-- the row at hand decides, or those after it
row-decides : (c : After-row_names) (t : Bool) → c.row_names.result ≡ t
    → let a = c.args in
    place_naming a.s a.message a.symbol (set_rows (replicate a.rows (set_in a.k a.set)) a.numbers.now)
    ≡ later (c.loop-row.row * a.s) (cond t (Some 0)
    (later a.s (place_naming a.s a.message a.symbol
    (set_rows (replicate (a.rows - (c.loop-row.row + 1)) (set_in a.k a.set)) (drop ((c.loop-row.row + 1) * count a.set) a.numbers.now)))))
row-decides c t e =
    let a = c.args in
    let row = c.loop-row.row in
    let size = count a.set in
    let numbers = a.numbers.now in
    let A = set_in a.k a.set in
    let rest = later a.s (place_naming a.s a.message a.symbol (set_rows (replicate (a.rows - (row + 1)) A) (drop ((row + 1) * size) numbers))) in
    let told : named_in a.message a.symbol (zip (members 0 A) (drop (row * size) numbers)) ≡ t =
    sym (c.row_names.ensures ∙ ap (λ (l : List ℕ). named_in a.message a.symbol (zip (members 0 A) l)) (to_end numbers (row * size))) ∙ e in
    c.loop-row.invariant
    ∙ ap (later (row * a.s))
    (row_next a.s a.message a.symbol A a.rows row size numbers (omega arith) c.requires.set_value.0
    ∙ ap (λ (u : Bool). cond u (Some 0) rest) told)

pub row_names-requires : goal.row_names-requires
row_names-requires c = let a = c.args in
    let from = c.loop-row.row * count a.set in
    rw (to_end a.numbers.now from)
    (omega (arith, members-length 0 (set_in a.k a.set), c.requires.set_value, length-drop from a.numbers.now, slot-end c.loop-row.row a.rows (count a.set) (omega arith)))

pub returns-then-row_names : goal.returns-then-row_names
returns-then-row_names c = let a = c.args in
    sym (row-decides (goal.at.returns-then-row_names c).After-row_names _ c.if-row_names.true ∙ ap Some (add-zero (c.loop-row.row * a.s)))

pub loop-row-preserved : goal.loop-row-preserved
loop-row-preserved c = let a = c.args in
    let row = c.loop-row.row in
    let rest = place_naming a.s a.message a.symbol
    (set_rows (replicate (a.rows - (row + 1)) (set_in a.k a.set)) (drop ((row + 1) * count a.set) a.numbers.now)) in
    let next : row * a.s + a.s ≡ (row + 1) * a.s = omega (arith, suc-mul row a.s, ap (λ (n : ℕ). n * a.s) (add-one row)) in
    row-decides (goal.at.loop-row-preserved c).After-row_names _ c.if-row_names.false ∙ later-twice (row * a.s) a.s rest ∙ ap (λ (n : ℕ). later n rest) next

pub returns : goal.returns
unfolding set_rows place_naming
returns c = let a = c.args in
    let none : a.rows - c.loop-row.row ≡ 0 = omega arith in
    sym (rw none at c.loop-row.invariant)
