-- `number_lists::put_after_spaces` meets its contract: after i turns the first i numbers stand side by side.
use mathlib.Core.Path.{refl, sym, ap, ◌∙◌}
use mathlib.Core.List.{List}
use Prim.Native.Nat.{ℕ}
use native.Mathlib.Omega.{arith}
use lib.ListN.{length, take, get_or, length-append}
use Rattle.lists.specs.Parts.{put}
use Rattle.lists.proofs.Puts.{put_next, put-nil}
use Rattle.number_lists.specs.NumberLists.{after_space, after_spaces}
use Rattle.number_lists.proofs.Spaced.{byte-length, after_none, after_more}
use Rattle.number_lists.proofs.put_after_spaces.Goals as goal

pub loop-n-init : goal.loop-n-init
loop-n-init c =
    let a = c.args in
    let none = after_none a.numbers.now in
    let l = ap length none in
    (omega arith, omega arith, sym (ap (λ (t : List ℕ). put a.start t a.out.now) none ∙ put-nil a.start a.out.now), refl)

pub loop-n-preserved : goal.loop-n-preserved
loop-n-preserved c =
    let a = c.args in
    let numbers = a.numbers.now in
    let i = c.loop-n.n-index in
    let n = get_or numbers i 0 in
    let b = byte-length n (omega (arith, c.type_inv.numbers i)) in
    let more = after_more numbers i c.loop-n-test.true in
    let done = after_spaces (take i numbers) in
    let l = ap length more ∙ length-append done (after_space n) in
    let e = c.put_after_space-at.ensures.value in
    let k = c.put_after_space-at.auto.out in (
      omega arith,
      omega arith,
      c.put_after_space-at.ensures.out_after
          ∙ put_next a.start c.loop-n.at done (after_space n) a.out.now c.loop-n.out (omega arith) c.loop-n.invariant.0 c.loop-n.invariant.2
          ∙ ap (λ (t : List ℕ). put a.start t a.out.now) (sym more),
      omega arith,
    )
