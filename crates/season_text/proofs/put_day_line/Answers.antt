-- `season_text::put_day_line` meets its contract: the name and the day's text are written side by side.
use mathlib.Core.Path.{◌≡◌, ap, ◌∙◌}
use mathlib.Core.List.{List, ◌++◌}
use Prim.Native.Nat.{ℕ, ◌+◌}
use native.Mathlib.Omega.{arith}
use lib.ListN.{length, length-append}
use Rattle.lists.specs.Parts.{put}
use Rattle.lists.proofs.Puts.{put_next}
use Rattle.season_text.specs.DayLines.{day_text}
use Rattle.season_text.proofs.put_day_line.Goals as goal

pub returns-clause-out_after : goal.returns-clause-out_after
returns-clause-out_after c =
    let a = c.args in
    let name = a.name.now in
    let l = length-append name (day_text a.d) in
    let d = ap length c.day_text-text.ensures in
    let p = c.requires in
    let start : c.put_bytes-start.result ≡ a.at + length name = c.put_bytes-start.ensures.value in
    c.put_bytes.ensures.out_after
    ∙ put_next a.at c.put_bytes-start.result name c.day_text-text.result a.out.now c.put_bytes-start.new.out (omega arith) start c.put_bytes-start.ensures.out_after
    ∙ ap (λ (l : List ℕ). put a.at (name ++ l) a.out.now) c.day_text-text.ensures
