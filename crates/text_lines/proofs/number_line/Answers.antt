-- `text_lines::number_line` meets its contract: the parts that are lent go to the text's end, and the name lies within it.
use mathlib.Core.Path.{sym, ap, ◌∙◌}
use Prim.Native.Nat.{◌+◌}
use native.Mathlib.Omega.{arith}
use lib.ListN.{length, length-take, length-drop}
use Rattle.lists.proofs.Cuts.{to_end}
use Rattle.text_lines.specs.Lines.{number_at, number_line}
use Rattle.text_lines.proofs.NumberLines.{past_end, begins-rest, name-within}
use Rattle.text_lines.proofs.number_line.Goals as goal

pub returns-then-text-at : goal.returns-then-text-at
returns-then-text-at c = let a = c.args in sym (past_end a.most a.name.now a.text.now a.at c.if-text-at.true)

pub returns-then-not-starts : goal.returns-then-not-starts
unfolding number_line
returns-then-not-starts c = let a = c.args in simp (begins-rest a.name.now a.text.now a.at c.starts.ensures c.if-not-starts.true)

pub slice_bounds-number-count : goal.slice_bounds-number-count
slice_bounds-number-count c =
    let a = c.args in
    name-within a.name.now a.text.now a.at c.if-text-at.false (begins-rest a.name.now a.text.now a.at c.starts.ensures c.if-not-starts.false)

pub slice_bounds-number-start : goal.slice_bounds-number-start
slice_bounds-number-start c =
    let a = c.args in
    name-within a.name.now a.text.now a.at c.if-text-at.false (begins-rest a.name.now a.text.now a.at c.starts.ensures c.if-not-starts.false)

pub number-requires : goal.number-requires
number-requires c =
    let a = c.args in
    let found = begins-rest a.name.now a.text.now a.at c.starts.ensures c.if-not-starts.false in
    let within = name-within a.name.now a.text.now a.at c.if-text-at.false found in
    record {
      most_bound = omega arith;
      text_bound = simp (length-take, length-drop) (omega (arith, c.well_formed));
    }

pub returns : goal.returns
unfolding number_line
returns c =
    let a = c.args in
    let start = a.at + length a.name.now in
    c.number.ensures ∙ ap (number_at a.most start) (to_end a.text.now start)
    ∙ simp (begins-rest a.name.now a.text.now a.at c.starts.ensures c.if-not-starts.false)
