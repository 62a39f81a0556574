-- `length_text::put_lengths` meets its contract: after i turns the first i lines are written.
use mathlib.Core.Path.{◌≡◌, sym, ap, ◌∙◌}
use mathlib.Core.List.{List}
use Prim.Native.Nat.{ℕ, ◌+◌}
use native.Mathlib.Omega.{arith}
use lib.ListN.{length, take, get_or}
use lib.Seq.{take_all}
use Rattle.lists.specs.Parts.{put}
use Rattle.lists.proofs.Puts.{put-nil, put_next}
use Rattle.text_lines.specs.Lines.{number_text}
use Rattle.lengths.specs.Lengths.{numbers_of}
use Rattle.length_text.specs.LengthLines.{length_name, length_text}
use Rattle.length_text.proofs.Texts.{text-more, length_more, length-within, front-numbers}
use Rattle.length_text.proofs.put_lengths.Goals as goal

pub loop-n-init : goal.loop-n-init
unfolding length_text
loop-n-init c = (omega arith, sym (put-nil c.args.at c.args.out.now))

pub put_line-next-requires : goal.put_line-next-requires
put_line-next-requires c =
    let a = c.args in
    let items = take c.line_count-lines.result a.l.places in
    let i = c.loop-n.n-index in
    let all = ap (λ (ns : List ℕ). length (length_text ns)) (front-numbers a.k c.line_count-lines.result a.l c.line_count-lines.ensures.value) in
    let more = length_more items i c.loop-n-test.true in
    let within = length-within items (i + 1) in
    let room = c.requires in
    omega (arith, c.loop-n.invariant.0, c.loop-n.auto.out)

pub loop-n-preserved : goal.loop-n-preserved
loop-n-preserved c =
    let a = c.args in
    let items = take c.line_count-lines.result a.l.places in
    let i = c.loop-n.n-index in
    let first = length_text (take i items) in
    let line = number_text length_name (get_or items i 0) in
    let all = ap (λ (ns : List ℕ). length (length_text ns)) (front-numbers a.k c.line_count-lines.result a.l c.line_count-lines.ensures.value) in
    let within = length-within items i in
    let room = c.requires in
    let l = c.loop-n.invariant in (
      omega (arith, length_more items i c.loop-n-test.true, l.0, c.put_line-next.ensures.value),
      c.put_line-next.ensures.out_after
          ∙ put_next a.at c.loop-n.next first line a.out.now c.loop-n.out (omega arith) l.0 l.1
          ∙ ap (λ (x : List ℕ). put a.at x a.out.now) (sym (text-more items i c.loop-n-test.true)),
    )

pub returns : goal.returns
returns c =
    let a = c.args in
    let items = take c.line_count-lines.result a.l.places in
    let all : take c.loop-n.n-index items ≡ numbers_of a.k a.l =
    take_all c.loop-n.n-index items c.loop-n-test.false
    ∙ front-numbers a.k c.line_count-lines.result a.l c.line_count-lines.ensures.value in
    record { value = rw all at c.loop-n.invariant.0; out_after = rw all at c.loop-n.invariant.1 }
