-- `season_text::season_lines` meets its contract: each line that is taken apart is the rule's, and past the end of the text nothing begins.
use mathlib.Core.Path.{sym, ap, ◌∙◌}
use mathlib.Core.Bool.{Bool}
use Prim.Native.Nat.{ℕ, ◌-◌}
use mathlib.Core.List.{List}
use mathlib.Core.Path.{◌≡◌}
use native.Mathlib.Omega.{arith}
use lib.ListN.{length, take, drop, drop_of_length-le}
use Rattle.lists.proofs.Cuts.{to_end}
use Rattle.season_text.specs.SeasonLines.{date_begins, season_lines}
use Rattle.season_text.proofs.SeasonLines.{nothing-begins}
use Rattle.season_text.proofs.season_lines.Goals as goal

-- what a test of the rest of the text, lent, says
begun : (text : List ℕ) (at : ℕ) {r s : Bool} → r ≡ date_begins (take (length text - at) (drop at text)) → r ≡ s → date_begins (drop at text) ≡ s
begun text at e f = sym (e ∙ ap date_begins (to_end text at)) ∙ f

pub returns-then-text-at : goal.returns-then-text-at
unfolding season_lines
returns-then-text-at c = let a = c.args in simp (c.none-none.ensures, drop_of_length-le a.text.now {i = a.at} (omega arith), nothing-begins)

pub returns-then-not-date_begins : goal.returns-then-not-date_begins
unfolding season_lines
returns-then-not-date_begins c = let a = c.args in simp (c.none-none.ensures, begun a.text.now a.at c.date_begins.ensures c.if-not-date_begins.true)

pub returns-in_default : goal.returns-in_default
unfolding season_lines
returns-in_default c =
    let a = c.args in simp (begun a.text.now a.at c.date_begins.ensures c.if-not-date_begins.false, sym c.day_line.ensures ∙ c.in_default.is)

pub returns-in_default-day_line : goal.returns-in_default-day_line
unfolding season_lines
returns-in_default-day_line c =
    let a = c.args in
    simp (
      begun a.text.now a.at c.date_begins.ensures c.if-not-date_begins.false,
      sym c.day_line.ensures ∙ c.in-Some.is,
      sym c.day_line-2.ensures ∙ c.in_default-day_line.is,
    )

pub returns : goal.returns
unfolding season_lines
returns c =
    let a = c.args in
    simp (
      begun a.text.now a.at c.date_begins.ensures c.if-not-date_begins.false,
      sym c.day_line.ensures ∙ c.in-Some.is,
      sym c.day_line-2.ensures ∙ c.in-Some-day_line.is,
    )
