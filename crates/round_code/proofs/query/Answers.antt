-- `round_code::query` meets its contract: after i turns the first i rows are written.
use mathlib.Core.Path.{◌≡◌, refl, sym, ap, ◌∙◌}
use mathlib.Core.Bool.{true}
use mathlib.Core.List.{List, ◌++◌, flat_map}
use Prim.Native.Nat.{ℕ, ◌+◌, ◌-◌, ◌*◌, ◌≤◌, ◌<◌}
use native.Mathlib.Numerals.{add-one}
use native.Mathlib.Omega.{arith}
use lib.ListN.{length, take, drop}
use Rattle.lists.specs.Parts.{put}
use Rattle.lists.specs.Ranges.{range}
use Rattle.lists.specs.Distinct.{is_permutation}
use Rattle.lists.proofs.Arranged.{permutation-facts}
use Rattle.lists.proofs.Cuts.{slot-end}
use Rattle.lists.proofs.Joined.{flat_map-next}
use Rattle.lists.proofs.Puts.{put_next, put-part}
use Rattle.parameters.specs.Bounds.{blocks}
use Rattle.round_scheme.specs.Round.{short_key, round_query}
use Rattle.round_scheme.proofs.Queries.{asked-long, rows_long}
use Rattle.round_code.specs.Steps.{RoundNumbers}
use Rattle.round_code.proofs.Fits.{rows-small}
use Rattle.round_code.proofs.query.Invariants.{asked}
use Rattle.round_code.proofs.query.Goals as goal

-- the place of the row of a turn
inside : (N K i long : ℕ) (key : List ℕ) → RoundNumbers N K → is_permutation (blocks N K) key ≡ true → blocks N K * K ≤ long → i < length key
    → (i * K + K ≤ long) × (i * K ≤ 64 * 7)
inside N K i long key b valid room h =
    let all = permutation-facts (blocks N K) key valid in
    let low : i < blocks N K = omega (arith, all.long) in
    (omega (arith, slot-end i (blocks N K) K low, room), rows-small N K b i (omega (arith, low)))

pub loop-i-init : goal.loop-i-init
unfolding range flat_map
loop-i-init c = refl

pub overflow_mul-at : goal.overflow_mul-at
overflow_mul-at c = let r = c.requires in
    omega (arith, inside c.args.n c.args.k c.loop-i.i (length c.args.out.now) c.args.key.now r.round_numbers r.key_value r.k_in_bounds (omega arith))

pub overflow_add-end : goal.overflow_add-end
overflow_add-end c = let r = c.requires in
    omega (arith, inside c.args.n c.args.k c.loop-i.i (length c.args.out.now) c.args.key.now r.round_numbers r.key_value r.k_in_bounds (omega arith))

pub slice_bounds-write_row-end : goal.slice_bounds-write_row-end
slice_bounds-write_row-end c = let r = c.requires in
    omega (arith, inside c.args.n c.args.k c.loop-i.i (length c.args.out.now) c.args.key.now r.round_numbers r.key_value r.k_in_bounds (omega arith))

pub write_row-requires-clause-bound : goal.write_row-requires-clause-bound
write_row-requires-clause-bound c =
    let all = permutation-facts (blocks c.args.n c.args.k) c.args.key.now c.requires.key_value in
    all.low c.loop-i.i (omega (arith, all.long))

pub loop-i-preserved : goal.loop-i-preserved
unfolding short_key
loop-i-preserved c = let a = c.args in
    let all = permutation-facts (blocks a.n a.k) a.key.now c.requires.key_value in
    let i = c.loop-i.i in
    let out = c.loop-i.out in
    let f = asked a.n a.k a.wanted a.server a.key.now in
    let low : i < blocks a.n a.k = omega (arith, all.long) in
    let some : 0 < a.n = omega (arith, c.requires.round_numbers.servers-low) in
    let known = c.requires.wanted_lt_k.0 in
    let there = c.requires.wanted_lt_k.1 in
    let before = rows_long a.n a.k some a.key.now all a.wanted a.server known there i (omega arith) in
    let one = asked-long a.n a.k some a.key.now all a.wanted a.server known there i low in
    ap (λ (l : List ℕ). take (i * a.k) out ++ (l ++ drop (i * a.k + a.k - i * a.k) (drop (i * a.k) out))) c.write_row.ensures
    ∙ put-part (i * a.k) a.k (f i) out one
    ∙ put_next 0 (i * a.k) (flat_map f (range 0 i)) (f i) a.out.now out (omega arith) (omega (arith, before)) c.loop-i.invariant
    ∙ ap (λ (l : List ℕ). put 0 l a.out.now) (sym (flat_map-next f i) ∙ ap (λ (n : ℕ). flat_map f (range 0 n)) (sym (add-one i)))

pub returns : goal.returns
unfolding round_query
returns c = let a = c.args in
    let last : c.loop-i.i ≡ blocks a.n a.k = omega (arith, (permutation-facts (blocks a.n a.k) a.key.now c.requires.key_value).long) in
    c.loop-i.invariant
    ∙ ap (λ (n : ℕ). put 0 (flat_map (asked a.n a.k a.wanted a.server a.key.now) (range 0 n)) a.out.now) last
