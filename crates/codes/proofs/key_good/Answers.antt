-- `codes::key_good` meets its contract: each arm asks the code that the catalogue names.
use mathlib.Core.Path.{ap, ◌∙◌}
use Prim.Native.Nat.{ℕ}
use Rattle.lists.specs.Distinct.{is_permutation}
use Rattle.parameters.specs.Measures.{even_sizes, round_sizes}
use Rattle.codes.proofs.Promises.{scheme-short, scheme-even, scheme-turn, scheme-round}
use Rattle.codes.proofs.key_good.Goals as goal

pub key_good-requires-in-Even : goal.key_good-requires-in-Even
unfolding even_sizes
key_good-requires-in-Even c = rw (scheme-even c.args.c c.in-Even.is) at c.requires.key_len

pub returns-in-Short : goal.returns-in-Short
returns-in-Short c = rw (scheme-short c.args.c c.in-Short.is) c.key_good.ensures

pub returns-in-Even : goal.returns-in-Even
returns-in-Even c = rw (scheme-even c.args.c c.in-Even.is) c.key_good-in-Even.ensures

pub returns-in-Turn : goal.returns-in-Turn
returns-in-Turn c = rw (scheme-turn c.args.c c.in-Turn.is) c.key_good-in-Turn.ensures

pub returns-in-Round : goal.returns-in-Round
unfolding round_sizes
returns-in-Round c = let e = scheme-round c.args.c c.in-Round.is in
    let long = rw e at c.requires.key_len in
    rw e (c.is_permutation.ensures ∙ ap (λ (size : ℕ). is_permutation size c.args.key.now) long)
