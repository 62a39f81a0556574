-- `season_text::put_season` meets its contract: without dates nothing is written, and else the two lines, side by side.
use mathlib.Core.Path.{◌≡◌, sym, ap, ◌∙◌}
use mathlib.Core.List.{List}
use Prim.Native.Nat.{ℕ, ◌+◌}
use native.Mathlib.Omega.{arith}
use lib.ListN.{length}
use Rattle.lists.specs.Parts.{put}
use Rattle.lists.proofs.Puts.{put-nil, put_next}
use Rattle.season_text.specs.DayLines.{day_line_text}
use Rattle.season_text.specs.SeasonLines.{open_name, close_name}
use Rattle.season_text.proofs.SeasonLines.{text-none, text-lines, parts-length}
use Rattle.season_text.proofs.put_season.Goals as goal

pub returns-then-are_none : goal.returns-then-are_none
returns-then-are_none c = let a = c.args in
    let none = text-none a.opening a.closing (sym c.are_none.ensures ∙ c.if-are_none.true) in
    record {
      value = rw none (omega arith);
      out_after = rw none (sym (put-nil a.at a.out.now));
    }

pub put_day_line-next-requires : goal.put_day_line-next-requires
put_day_line-next-requires c =
    let a = c.args in omega (arith, parts-length a.opening a.closing (sym c.are_none.ensures ∙ c.if-are_none.false))

pub put_day_line-requires : goal.put_day_line-requires
put_day_line-requires c =
    let a = c.args in omega (arith, parts-length a.opening a.closing (sym c.are_none.ensures ∙ c.if-are_none.false))

pub returns : goal.returns
returns c =
    let a = c.args in
    let x = day_line_text open_name a.opening in
    let y = day_line_text close_name a.closing in
    let dated = sym c.are_none.ensures ∙ c.if-are_none.false in
    let l = parts-length a.opening a.closing dated in
    let start : c.put_day_line-next.result ≡ a.at + length x = c.put_day_line-next.ensures.value in
    record {
      value = omega (arith, c.put_day_line.ensures.value);
      out_after = c.put_day_line.ensures.out_after
          ∙ put_next a.at c.put_day_line-next.result x y a.out.now c.put_day_line-next.new.out (omega (arith, c.requires)) start c.put_day_line-next.ensures.out_after
          ∙ ap (λ (l : List ℕ). put a.at l a.out.now) (sym (text-lines a.opening a.closing dated));
    }
