-- `text_lines::put_decimal` meets its contract: the digits written so far and those of what is left are all of them.
use mathlib.Core.Path.{◌≡◌, sym, ap, ◌∙◌}
use mathlib.Core.List.{List, [], ◌∷◌, ◌++◌, append_assoc}
use Prim.Native.Nat.{ℕ, suc, ◌+◌, ◌-◌, ◌/◌, ◌%◌, ◌≤◌}
use native.Mathlib.Omega.{arith}
use lib.ListN.{length, set, length-append}
use Rattle.lists.specs.Parts.{put}
use Rattle.lists.proofs.Puts.{put-length, put-before}
use Rattle.text_lines.specs.Decimal.{digit, decimal}
use Rattle.text_lines.proofs.Decimal.{decimal-small, decimal-large, length-small, length-large, some-digits}
use Rattle.text_lines.proofs.put_decimal.Invariants.{Written}
use Rattle.text_lines.proofs.put_decimal.Goals as goal

-- where the written digits lie
module _ (at n : ℕ) (before : List ℕ) (i front : ℕ) (out : List ℕ) (w : Written at n before i front out)
    (room : at + length (decimal n) ≤ length before) where
  fits : i + length w.written ≤ length before
  fits = let e = ap length w.whole ∙ length-append (decimal front) w.written in let p = w.place in omega arith

  same : length out ≡ length before
  same = ap length w.bytes ∙ put-length i w.written before fits

  -- one digit more, before them
  next : (j d : ℕ) → i ≡ suc j → set out j d ≡ put j (d ∷ w.written) before
  next j d e =
      ap (λ (l : List ℕ). set l j d) (w.bytes ∙ ap (λ (m : ℕ). put m w.written before) e)
      ∙ put-before j d w.written before (let f = fits in omega arith)

pub overflow_sub-i : goal.overflow_sub-i
overflow_sub-i c = let p = c.loop-front.invariant.place in let s = some-digits c.loop-front.front in omega arith

pub bounds-out-i : goal.bounds-out-i
bounds-out-i c = let s = same c.args.at c.args.n c.args.out.now c.loop-front.i c.loop-front.front c.loop-front.out c.loop-front.invariant c.requires in
    let f = fits c.args.at c.args.n c.args.out.now c.loop-front.i c.loop-front.front c.loop-front.out c.loop-front.invariant c.requires in
    let p = c.loop-front.invariant.place in
    let d = some-digits c.loop-front.front in
    omega arith

pub loop-front-preserved : goal.loop-front-preserved
loop-front-preserved c = let a = c.args in
    let w = c.loop-front.invariant in
    let front = c.loop-front.front in
    let p = w.place in
    let more = length-large front c.loop-front-test.true in
    let e : c.loop-front.i ≡ suc (c.loop-front.i - 1) = omega arith in
    record {
      written = digit (front % 10) ∷ w.written;
      whole = w.whole
          ∙ ap (λ (l : List ℕ). l ++ w.written) (decimal-large front c.loop-front-test.true)
          ∙ append_assoc (decimal (front / 10)) (digit (front % 10) ∷ []) w.written;
      place = omega arith;
      bytes = next a.at a.n a.out.now c.loop-front.i front c.loop-front.out w c.requires (c.loop-front.i - 1) (digit (front % 10)) e;
    }

pub bounds-out-at : goal.bounds-out-at
bounds-out-at c = let s = same c.args.at c.args.n c.args.out.now c.loop-front.i c.loop-front.front c.loop-front.out c.loop-front.invariant c.requires in
    let d = some-digits c.args.n in
    let r = c.requires in
    omega arith

pub returns-clause-out_after : goal.returns-clause-out_after
returns-clause-out_after c =
    let w = c.loop-front.invariant in
    let front = c.loop-front.front in
    let p = w.place in
    let one = length-small front c.loop-front-test.false in
    let e : c.loop-front.i ≡ suc c.args.at = omega arith in
    let last : decimal front ++ w.written ≡ digit front ∷ w.written = ap (λ (l : List ℕ). l ++ w.written) (decimal-small front c.loop-front-test.false) in
    let all : decimal c.args.n ≡ digit front ∷ w.written = w.whole ∙ last in
    next c.args.at c.args.n c.args.out.now c.loop-front.i front c.loop-front.out w c.requires c.args.at (digit front) e
    ∙ ap (λ (l : List ℕ). put c.args.at l c.args.out.now) (sym all)
