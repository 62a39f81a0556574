-- `turn_code::expected_length` meets its contract: it is what the query of the server that is played calls for, by the key without its last digit.
use mathlib.Core.Path.{sym, ap, ◌∙◌}
use Prim.Native.Nat.{ℕ}
use native.Mathlib.Omega.{arith}
use Rattle.short_scheme.specs.Short.{short_query, short_answer_length}
use Rattle.turn_code.specs.Turn.{other_digits, turn_query}
use Rattle.turn_code.proofs.Keys.{others-length}
use Rattle.turn_code.proofs.Parts.{part-below}
use Rattle.turn_code.proofs.expected_length.Goals as goal

pub slice_bounds-expected_length-end : goal.slice_bounds-expected_length-end
slice_bounds-expected_length-end c = sym (others-length c.args.key.now)

pub expected_length-requires : goal.expected_length-requires
expected_length-requires c = let a = c.args in
    omega (arith, c.part-played.ensures, part-below a.n a.key.now (omega arith) a.server)

pub returns : goal.returns
unfolding turn_query
returns c = let a = c.args in
    c.expected_length.ensures
    ∙ ap (λ (n : ℕ). short_answer_length a.s (short_query a.n a.wanted n (other_digits a.key.now))) c.part-played.ensures
