-- `length_text::lengths_length` meets its contract: after i turns the first i lines are counted, each of at most 18 bytes.
use mathlib.Core.Path.{◌≡◌, refl, ap, ◌∙◌}
use mathlib.Core.List.{List}
use Prim.Native.Nat.{ℕ}
use native.Mathlib.Omega.{arith}
use borrow.Author.Rules.{rules}
use lib.ListN.{length, take, get_or, length-take}
use lib.Seq.{take_all}
use mir.Val.{Fits}
use mir.Syntax.{w32}
use Rattle.text_lines.proofs.NumberLines.{number-text-most}
use Rattle.lengths.specs.Lengths.{numbers_of}
use Rattle.length_text.specs.LengthLines.{length_name, length_text}
use Rattle.length_text.proofs.Texts.{length_more, front-numbers}
use Rattle.length_text.proofs.lengths_length.Goals as goal

pub loop-n-init : goal.loop-n-init
unfolding length_text
loop-n-init c = (refl, omega arith)

pub loop-n-preserved : goal.loop-n-preserved
loop-n-preserved c =
    let items = take c.line_count-lines.result c.args.l.places in
    let i = c.loop-n.n-index in
    let n = get_or items i 0 in
    let word : Fits w32 n = search rules in
    let most = number-text-most length_name 9 n (omega (arith, word)) in
    let more = length_more items i c.loop-n-test.true in
    (omega (arith, more, c.line_length-total.ensures), omega (arith, most, c.line_length-total.ensures))

pub overflow_add-total : goal.overflow_add-total
overflow_add-total c =
    let n = get_or (take c.line_count-lines.result c.args.l.places) c.loop-n.n-index 0 in
    let word : Fits w32 n = search rules in
    let most = number-text-most length_name 9 n (omega (arith, word)) in
    omega (arith, most, c.line_length-total.ensures, length-take c.line_count-lines.result c.args.l.places, c.line_count-lines.ensures.upper_bound)

pub returns-clause-value : goal.returns-clause-value
returns-clause-value c =
    let a = c.args in
    let items = take c.line_count-lines.result a.l.places in
    let all : take c.loop-n.n-index items ≡ numbers_of a.k a.l =
    take_all c.loop-n.n-index items c.loop-n-test.false
    ∙ front-numbers a.k c.line_count-lines.result a.l c.line_count-lines.ensures.value in
    c.loop-n.invariant.0 ∙ ap (λ (ns : List ℕ). length (length_text ns)) all
