-- `even_key::permutations_good` meets its contract: all parts before p are permutations.
use mathlib.Core.Path.{◌≡◌, refl, sym, ap, ◌∙◌}
use mathlib.Core.Bool.{true, false}
use mathlib.Core.List.{List}
use Prim.Native.Nat.{ℕ, ◌+◌, ◌-◌, ◌*◌}
use native.Mathlib.Nat.{add-sub_cancel_left}
use native.Mathlib.Omega.{arith}
use borrow.Author.Tests.{not-true, not-false}
use lib.ListN.{take, drop}
use Rattle.lists.specs.Distinct.{is_permutation}
use Rattle.lists.specs.Parts.{cut}
use Rattle.lists.specs.Ranges.{every}
use Rattle.lists.proofs.Every.{every_more, every-false}
use Rattle.even_key.proofs.permutations_good.Goals as goal

-- the part that is lent is the part that the contract names
lent : (size p : ℕ) (key : List ℕ) → take (p * size + size - p * size) (drop (p * size) key) ≡ cut (p * size) size key
lent size p key = ap (λ (n : ℕ). take n (drop (p * size) key)) (add-sub_cancel_left (p * size) size)

pub loop-p-init : goal.loop-p-init
unfolding every
loop-p-init c = refl

pub returns-then-not-is_permutation : goal.returns-then-not-is_permutation
returns-then-not-is_permutation c = let args = c.args in
    let p = c.loop-p.p in
    let not_good : is_permutation args.size (cut (p * args.size) args.size args.key.now) ≡ false =
    ap (is_permutation args.size) (sym (lent args.size p args.key.now)) ∙ sym c.is_permutation.ensures ∙ not-true _ c.if-not-is_permutation.true-raw in
    sym (every-false args.k (λ q. is_permutation args.size (cut (q * args.size) args.size args.key.now)) p (omega arith) not_good)

pub loop-p-preserved : goal.loop-p-preserved
loop-p-preserved c = let args = c.args in
    let p = c.loop-p.p in
    let good : is_permutation args.size (cut (p * args.size) args.size args.key.now) ≡ true =
    ap (is_permutation args.size) (sym (lent args.size p args.key.now)) ∙ sym c.is_permutation.ensures ∙ not-false _ c.if-not-is_permutation.false-raw in
    every_more p (λ q. is_permutation args.size (cut (q * args.size) args.size args.key.now)) c.loop-p.invariant good
