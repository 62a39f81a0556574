-- `even_ranks::count_set` meets its contract: the part of the counters that it lends is that of the set's block and kind.
use mathlib.Core.Path.{◌≡◌, ap, ◌∙◌}
use mathlib.Core.List.{List, ◌++◌}
use Prim.Native.Nat.{ℕ, ◌+◌, ◌-◌}
use native.Mathlib.Nat.{add-sub_cancel_left}
use native.Mathlib.Omega.{arith}
use lib.ListN.{length, take, drop}
use Rattle.lists.proofs.Cuts.{cut-length}
use Rattle.even_places.specs.Rule.{after}
use Rattle.even_sets.specs.Sets.{set_in}
use Rattle.even_ranks.proofs.Steps.{stands-count, lent, counted-part}
use Rattle.even_ranks.proofs.count_set.Goals as goal

pub counters_of-at-requires : goal.counters_of-at-requires
counters_of-at-requires c = let a = c.args in
    (omega (arith, c.requires.0, c.requires.1), omega (arith, stands-count a.k a.set c.requires.2, c.requires.2.some))

pub overflow_add-at : goal.overflow_add-at
overflow_add-at c = let a = c.args in
    let l = lent a.k a.wanted a.set c.counters_of-at.result c.requires.0 c.requires.2 c.counters_of-at.ensures in
    omega (arith, l.fits)

pub offset_bounds-counts-at : goal.offset_bounds-counts-at
offset_bounds-counts-at c = let a = c.args in
    let l = lent a.k a.wanted a.set c.counters_of-at.result c.requires.0 c.requires.2 c.counters_of-at.ensures in
    omega (arith, l.fits)

pub slice_bounds-count_members-end : goal.slice_bounds-count_members-end
slice_bounds-count_members-end c = let a = c.args in
    let l = lent a.k a.wanted a.set c.counters_of-at.result c.requires.0 c.requires.2 c.counters_of-at.ensures in
    omega (arith, l.fits, c.requires.3)

pub returns : goal.returns
returns c = let a = c.args in
    let at = c.counters_of-at.result in
    let counts = a.counts.now in
    let l = lent a.k a.wanted a.set c.counters_of-at.result c.requires.0 c.requires.2
    c.counters_of-at.ensures in
    let part = take (at + a.k - at) (drop at counts) in
    let size : length part ≡ a.k =
    ap (λ (n : ℕ). length (take n (drop at counts))) (add-sub_cancel_left at a.k) ∙ cut-length at a.k counts (omega (arith, l.fits, c.requires.3)) in
    ap (λ (l : List ℕ). take at counts ++ (l ++ drop (at + a.k - at) (drop at counts))) (c.count_members.ensures ∙ ap (λ (n : ℕ). after (set_in n a.set) part) size)
    ∙ counted-part a.k a.wanted a.set at counts c.requires.3 l
