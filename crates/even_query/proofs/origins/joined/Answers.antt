-- `even_query::origins::joined` meets its contract: it is the record that the definition is, with the rows of the block before.
use mathlib.Core.Path.{◌≡◌, ap, ◌∙◌}
use Prim.Native.Nat.{ℕ, ◌+◌, ◌-◌, ◌*◌, ◌/◌, ◌%◌, ◌^◌, ◌<◌}
use native.Mathlib.Omega.{arith}
use lib.ListN.{get_or}
use Rattle.even_places.specs.Rule.{others}
use Rattle.even_ranks.specs.Walk.{joined}
use Rattle.even_query.proofs.Steps.{rows_before}
use Rattle.even_query.proofs.origins.joined.Goals as goal

pub power-rows-requires : goal.power-rows-requires
power-rows-requires c = let a = c.args in
    let rows = rows_before a.n a.ones a.i c.requires.0 c.requires.3 c.requires.4 in
    omega (arith, rows.most, c.requires.5)

pub nonzero_div-other : goal.nonzero_div-other
nonzero_div-other c = let a = c.args in
    let rows = rows_before a.n a.ones a.i c.requires.0 c.requires.3 c.requires.4 in
    omega (arith, rows.some, c.power-rows.ensures)

pub other_server-requires : goal.other_server-requires
other_server-requires c = let a = c.args in
    let rows = rows_before a.n a.ones a.i c.requires.0 c.requires.3 c.requires.4 in
    omega (arith, rows.other, ap (λ (q : ℕ). a.i / q) c.power-rows.ensures, c.requires.1)

pub nonzero_rem-result : goal.nonzero_rem-result
nonzero_rem-result c = let a = c.args in
    let rows = rows_before a.n a.ones a.i c.requires.0 c.requires.3 c.requires.4 in
    omega (arith, rows.some, c.power-rows.ensures)

pub returns : goal.returns
unfolding joined
returns c = let a = c.args in
    let rows = rows_before a.n a.ones a.i c.requires.0 c.requires.3 c.requires.4 in
    let P = c.power-rows.result in
    let e : P ≡ (a.n - 1) ^ (a.ones - 2) = c.power-rows.ensures in
    let low : a.i / P < a.n - 1 = omega (arith, rows.other, ap (λ (q : ℕ). a.i / q) e) in
    ap (λ (m : ℕ). record {
      block = a.ones - 1;
      source = a.ones - 2;
      rows = P;
      turn = a.server * (a.n - 1) + a.i / P;
      server = m;
      number = a.i % P;
    }) (c.other_server.ensures a.n c.requires.2 low)
    ∙ ap (λ (q : ℕ). record {
      block = a.ones - 1;
      source = a.ones - 2;
      rows = q;
      turn = a.server * (a.n - 1) + a.i / q;
      server = get_or (others a.n a.server) (a.i / q) 0;
      number = a.i % q;
    }) e
