-- `even_query::origins::plain` meets its contract: it is the record that the definition is.
use mathlib.Core.Path.{ap}
use Prim.Native.Nat.{ℕ, ◌-◌}
use Rattle.even_ranks.specs.Walk.{plain}
use Rattle.even_query.proofs.origins.plain.Goals as goal

pub returns : goal.returns
unfolding plain
returns c = let a = c.args in
    ap (λ (q : ℕ). record {
      block = a.ones - 1;
      source = a.ones - 1;
      rows = q;
      turn = a.server;
      server = a.server;
      number = a.i;
    }) c.power-rows.ensures
