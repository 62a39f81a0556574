-- `season_text::season_length` meets its contract: no bytes without dates, and else 16 and 17.
use mathlib.Core.Path.{sym, ap, ◌∙◌}
use lib.ListN.{length}
use Rattle.season_text.proofs.SeasonLines.{text-none, lines-length}
use Rattle.season_text.proofs.season_length.Goals as goal

pub returns-then-are_none : goal.returns-then-are_none
returns-then-are_none c = let a = c.args in
    sym (ap length (text-none a.opening a.closing (sym c.are_none.ensures ∙ c.if-are_none.true)))

pub returns : goal.returns
returns c = let a = c.args in
    sym (lines-length a.opening a.closing (sym c.are_none.ensures ∙ c.if-are_none.false))
