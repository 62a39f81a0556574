-- `recover` meets its contract: after each server the parts of the servers up to it are written.
use mathlib.Core.Path.{◌≡◌, ap, ◌∙◌}
use mathlib.Core.List.{List}
use Prim.Native.Nat.{ℕ}
use native.Mathlib.Omega.{arith}
use Rattle.parameters.proofs.Bounds.{even-bounds}
use Rattle.parameters.specs.Measures.{even_sizes}
use Rattle.symbol.specs.Operations.{sum_of}
use Rattle.symbol.proofs.Operations.{group_of}
use Rattle.lists.specs.Assembled.{lay_all}
use Rattle.even_scheme.proofs.Promises.{even-written}
use Rattle.even_sets.proofs.Blocks.{subsets-few, all-length}
use Rattle.even_sets.proofs.Fits.{layout-fits}
use Rattle.even_sets.proofs.SetBytes.{table-front, front-length}
use Rattle.even_recover.proofs.Servers.{before-none, before_more, before-all}
use Rattle.even_recover.proofs.recover.Goals as goal

pub ordered_sets-sets-requires : goal.ordered_sets-sets-requires
ordered_sets-sets-requires c = (even-bounds c.args.n c.args.k c.args.s c.requires.s_value).messages-high

pub power-count-requires : goal.power-count-requires
power-count-requires c = let a = c.args in
    omega (arith, subsets-few a.k (even-bounds a.n a.k a.s c.requires.s_value).messages-high)

pub first_rows-firsts-requires : goal.first_rows-firsts-requires
first_rows-firsts-requires c = layout-fits c.args.n c.args.k c.args.s c.requires.s_value

pub loop-server-init : goal.loop-server-init
loop-server-init c = let at = c.args in before-none (sum_of at.op) at.n at.k at.s at.wanted at.key.now at.answers.now at.message.now

pub slice_bounds-sets-end : goal.slice_bounds-sets-end
slice_bounds-sets-end c = let a = c.args in
    omega (arith, c.power-count.ensures, subsets-few a.k (even-bounds a.n a.k a.s c.requires.s_value).messages-high)

pub slice_bounds-fetch-end : goal.slice_bounds-fetch-end
slice_bounds-fetch-end c = let k = c.args.k in
    omega (arith, c.power-count.ensures, all-length k, front-length k c.power-count.ensures c.ordered_sets-sets.ensures)

pub invariant_of-fetch-clause-long : goal.invariant_of-fetch-clause-long
unfolding even_sizes
invariant_of-fetch-clause-long c = c.requires.valid.long

pub invariant_of-fetch-clause-ordered : goal.invariant_of-fetch-clause-ordered
invariant_of-fetch-clause-ordered c = table-front c.args.k c.power-count.ensures c.ordered_sets-sets.ensures

pub invariant_of-fetch-clause-slots : goal.invariant_of-fetch-clause-slots
unfolding even_sizes
invariant_of-fetch-clause-slots c = c.requires.s_in_bounds

pub loop-server-preserved : goal.loop-server-preserved
loop-server-preserved c = let at = c.args in
    before_more (sum_of at.op) at.n at.k at.s at.wanted at.key.now at.answers.now c.loop-server.server
    at.message.now c.loop-server.message _ c.loop-server.invariant c.from_server.ensures

pub returns : goal.returns
returns c = let at = c.args in
    let all : c.loop-server.server ≡ at.n = omega arith in
    c.loop-server.invariant
    ∙ ap (λ (l : List (ℕ × List ℕ)). lay_all l at.message.now)
    (before-all (sum_of at.op) at.n at.k at.s at.wanted at.key.now at.answers.now c.loop-server.server all)
    ∙ even-written (sum_of at.op) at.n at.k at.s (group_of at.op at.s) c.requires.s_value at.wanted c.requires.wanted_lt_k at.key.now c.requires.valid
    at.answers.now c.requires.s_in_bounds at.message.now
