-- `even_layout::first_rows` meets its contract: before each turn the first rows of the sets from its own on are still to be written.
use mathlib.Core.Path.{◌≡◌, sym, ◌∙◌}
use mathlib.Core.List.{[]}
use Prim.Native.Nat.{◌≤◌, ◌<◌}
use native.Mathlib.Omega.{arith}
use lib.ListN.{length, get_or, drop_of_length-le}
use Rattle.even_places.specs.Rule.{all_sets}
use Rattle.even_sets.specs.Sets.{rows_of}
use Rattle.even_sets.proofs.Blocks.{subsets-few, all-length}
use Rattle.even_sets.proofs.SetBytes.{front-length, front-byte}
use Rattle.even_layout.proofs.Firsts.{filled, filled_more, filled-firsts}
use Rattle.even_layout.proofs.first_rows.Goals as goal

pub rows_of-row-requires : goal.rows_of-row-requires
rows_of-row-requires c = let s = front-byte c.args.k c.power-count.ensures c.ordered_sets-sets.ensures c.requires c.loop-set.set-index c.loop-set-test.true in
    (omega (arith, c.requires.servers-low), s.some, omega (arith, s.rows, s.high))

pub overflow_add-row : goal.overflow_add-row
overflow_add-row c = let s = front-byte c.args.k c.power-count.ensures c.ordered_sets-sets.ensures c.requires c.loop-set.set-index c.loop-set-test.true in
    omega (
      arith,
      c.rows_of-row.ensures,
      s.rows,
      s.high,
      subsets-few c.args.k c.requires.messages-high,
      all-length c.args.k,
      front-length c.args.k c.power-count.ensures c.ordered_sets-sets.ensures,
    )

pub loop-set-preserved : goal.loop-set-preserved
loop-set-preserved c = let a = c.args in
    let i = c.loop-set.set-index in
    let inside : i < length (all_sets a.k) = omega (arith, front-length c.args.k c.power-count.ensures c.ordered_sets-sets.ensures) in
    let s = front-byte c.args.k c.power-count.ensures c.ordered_sets-sets.ensures c.requires c.loop-set.set-index c.loop-set-test.true in
    let rows : c.rows_of-row.result ≡ rows_of a.n (get_or (all_sets a.k) i []) = c.rows_of-row.ensures ∙ s.rows in (
      omega (arith, s.high),
      rw (s.byte, rows) (sym (filled_more a.n a.k c.loop-set.row i c.loop-set.firsts inside) ∙ c.loop-set.invariant.1),
    )

pub returns : goal.returns
unfolding filled
returns c = let k = c.args.k in
    let all : length (all_sets k) ≤ c.loop-set.set-index = omega (arith, front-length c.args.k c.power-count.ensures c.ordered_sets-sets.ensures) in
    rw (drop_of_length-le (all_sets k) all) at c.loop-set.invariant.1 ∙ filled-firsts c.args.n k c.requires
