-- `season_text::day_line` meets its contract: the parts that are lent go to the text's end, and the name lies within it.
use mathlib.Core.Path.{sym, ap, ◌∙◌}
use Prim.Native.Nat.{◌+◌}
use native.Mathlib.Omega.{arith}
use lib.ListN.{length, length-take, length-drop}
use Rattle.lists.proofs.Cuts.{to_end}
use Rattle.season_text.specs.DayLines.{day_at, day_line}
use Rattle.text_lines.proofs.NumberLines.{begins-rest, name-within}
use Rattle.season_text.proofs.DayLines.{past_end}
use Rattle.season_text.proofs.day_line.Goals as goal

pub returns-then-text-at : goal.returns-then-text-at
returns-then-text-at c = let a = c.args in sym (past_end a.name.now a.text.now a.at c.if-text-at.true)

pub returns-then-not-starts : goal.returns-then-not-starts
unfolding day_line
returns-then-not-starts c = let a = c.args in simp (begins-rest a.name.now a.text.now a.at c.starts.ensures c.if-not-starts.true)

pub slice_bounds-day-count : goal.slice_bounds-day-count
slice_bounds-day-count c =
    let a = c.args in
    name-within a.name.now a.text.now a.at c.if-text-at.false (begins-rest a.name.now a.text.now a.at c.starts.ensures c.if-not-starts.false)

pub slice_bounds-day-start : goal.slice_bounds-day-start
slice_bounds-day-start c =
    let a = c.args in
    name-within a.name.now a.text.now a.at c.if-text-at.false (begins-rest a.name.now a.text.now a.at c.starts.ensures c.if-not-starts.false)

pub day-requires : goal.day-requires
day-requires c =
    let a = c.args in
    let found = begins-rest a.name.now a.text.now a.at c.starts.ensures c.if-not-starts.false in
    let within = name-within a.name.now a.text.now a.at c.if-text-at.false found in
    simp (length-take, length-drop) (omega (arith, c.well_formed))

pub returns : goal.returns
unfolding day_line
returns c =
    let a = c.args in
    let start = a.at + length a.name.now in
    c.day.ensures ∙ ap (day_at start) (to_end a.text.now start)
    ∙ simp (begins-rest a.name.now a.text.now a.at c.starts.ensures c.if-not-starts.false)
