-- `even_ranks::count_members` meets its contract: after p turns the counters from p on are still to be counted.
use mathlib.Core.Path.{◌≡◌, refl, sym, ap, ◌∙◌}
use Prim.Native.Nat.{ℕ, ◌+◌, ◌%◌}
use native.Mathlib.Omega.{arith}
use lib.ListN.{length, get_or}
use lib.Seq.{get_or-set_other}
use Rattle.even_ranks.proofs.Steps.{counts_from, counts_start, counts-more, counts-done}
use Rattle.even_ranks.proofs.count_members.Goals as goal

pub loop-count-init : goal.loop-count-init
loop-count-init c = (λ i h. refl, counts_start (length c.args.counts.now) c.args.set c.args.counts.now)

pub loop-count-preserved : goal.loop-count-preserved
loop-count-preserved c = let counts = c.loop-count.counts in
    let p = c.loop-count.count-index in
    let next = get_or counts p 0 + c.loop-count.rest % 2 in (
      (λ i h. get_or-set_other counts p i next 0 (λ e. absurd (let w : ⊥ = omega arith in w)) ∙ c.loop-count.invariant.0 i (omega arith)),
      sym (counts-more (length c.args.counts.now) p c.loop-count.rest counts (omega arith) (omega arith)) ∙ c.loop-count.invariant.1,
    )

pub returns : goal.returns
returns c = let counts = c.loop-count.counts in
    let k = length c.args.counts.now in
    let all : c.loop-count.count-index ≡ k = omega arith in
    sym (ap (λ (p : ℕ). counts_from k p c.loop-count.rest counts) all
    ∙ counts-done k c.loop-count.rest counts (omega arith))
    ∙ c.loop-count.invariant.1
