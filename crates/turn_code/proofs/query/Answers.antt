-- `turn_code::query` meets its contract: it is the query of the server that is played, by the key without its last digit.
use mathlib.Core.Path.{sym, ap, ◌∙◌}
use Prim.Native.Nat.{ℕ, ◌<◌}
use native.Mathlib.Omega.{arith}
use Rattle.lists.specs.Parts.{put}
use Rattle.short_scheme.specs.Short.{short_query}
use Rattle.turn_code.specs.Turn.{other_digits, turn_query}
use Rattle.turn_code.proofs.Keys.{others-length, others-good}
use Rattle.turn_code.proofs.Parts.{part-below}
use Rattle.turn_code.proofs.query.Goals as goal

pub slice_bounds-query-end : goal.slice_bounds-query-end
slice_bounds-query-end c = sym (others-length c.args.key.now)

pub query-requires : goal.query-requires
query-requires c = let a = c.args in
    let key = a.key.now in
    let low : c.part-played.result < a.n = omega (arith, c.part-played.ensures, part-below a.n key (omega arith) a.server) in
    record {
      server_lt_n = (low, c.requires.server_lt_n.1);
      key_value = others-good a.n key c.requires.key_value;
      wanted_in_bounds = (omega (arith, others-length key), omega (arith, others-length key));
    }

pub returns : goal.returns
unfolding turn_query
returns c = let a = c.args in
    c.query.ensures
    ∙ ap (λ (n : ℕ). put 0 (short_query a.n a.wanted n (other_digits a.key.now)) a.out.now) c.part-played.ensures
