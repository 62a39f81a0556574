-- `even_ranks::totals` meets its contract: after i turns the sets from i on are still to be counted.
use mathlib.Core.Path.{refl, sym, ap, ◌∙◌}
use mathlib.Core.Bool.{Bool}
use mathlib.Core.List.{List}
use Prim.Native.Nat.{suc, ◌+◌, ◌≤◌, ◌<◌}
use native.Mathlib.Numerals.{add-one}
use native.Mathlib.Omega.{arith}
use lib.ListN.{length, get_or, drop, length-map, drop_of_length-le}
use Rattle.lists.proofs.Below.{below-zeros}
use Rattle.even_places.specs.Rule.{byte_of, all_sets}
use Rattle.even_sets.specs.Sets.{set_in}
use Rattle.even_sets.proofs.Blocks.{all-length, subsets-few}
use Rattle.even_ranks.specs.Counts.{no_counts, set_counted, counted_all, totals_of}
use Rattle.even_ranks.proofs.Counters.{counted-length}
use Rattle.even_ranks.proofs.Steps.{stands_at, stands_set, counted-below, counted-more}
use Rattle.even_ranks.proofs.totals.Goals as goal

pub loop-set-init : goal.loop-set-init
unfolding totals_of no_counts
loop-set-init c = (refl, below-zeros 1 128 (omega arith), refl)

pub count_set-requires : goal.count_set-requires
count_set-requires c = let a = c.args in
    let i = c.loop-set.set-index in
    let low : i < length a.sets.now = omega arith in
    let few : length a.sets.now ≤ 255 =
    omega (arith, ap length c.requires.2, length-map (all_sets a.k) byte_of, all-length a.k, subsets-few a.k c.requires.0) in (
      c.requires.0,
      c.requires.1,
      (stands_at a.k i a.sets.now (omega (arith, c.requires.1)) c.requires.0 c.requires.2 low).0,
      c.loop-set.invariant.0,
      (λ j h. omega (arith, c.loop-set.invariant.1 j h)),
    )

pub loop-set-preserved : goal.loop-set-preserved
loop-set-preserved c = let a = c.args in
    let i = c.loop-set.set-index in
    let A = set_in a.k (get_or a.sets.now i 0) in
    let here = stands_at a.k i a.sets.now (omega (arith, c.requires.1)) c.requires.0 c.requires.2 (omega arith) in
    let next = c.count_set.ensures in
    let inside : i < length (all_sets a.k) = omega (arith, ap length c.requires.2, length-map (all_sets a.k) byte_of) in (
      ap length next
          ∙ counted-length a.k a.wanted c.requires.0 A c.loop-set.counts (stands_set a.k (get_or a.sets.now i 0) here.0) c.loop-set.invariant.0,
      rw (next, add-one i) (counted-below (suc i) a.wanted A c.loop-set.counts c.loop-set.invariant.1),
      ap (counted_all a.wanted (drop (i + 1) (all_sets a.k))) (next ∙ ap (λ (B : List Bool). set_counted a.wanted B c.loop-set.counts) here.1)
          ∙ sym (counted-more a.wanted i (all_sets a.k) c.loop-set.counts inside) ∙ c.loop-set.invariant.2,
    )

pub returns : goal.returns
unfolding counted_all
returns c = let a = c.args in
    let all : length (all_sets a.k) ≤ c.loop-set.set-index = omega (arith, ap length c.requires.2, length-map (all_sets a.k) byte_of) in
    rw (drop_of_length-le (all_sets a.k) all) at c.loop-set.invariant.2
