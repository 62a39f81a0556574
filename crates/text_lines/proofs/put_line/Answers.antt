-- `text_lines::put_line` meets its contract: the name, the digits and byte 10 are written side by side.
use mathlib.Core.Path.{◌≡◌, ap, ◌∙◌}
use mathlib.Core.List.{List, [], ◌∷◌, ◌++◌, append_assoc}
use Prim.Native.Nat.{ℕ, ◌+◌}
use native.Mathlib.Omega.{arith}
use lib.ListN.{length, length-append}
use Rattle.lists.specs.Parts.{put}
use Rattle.lists.proofs.Puts.{put_next}
use Rattle.text_lines.specs.Decimal.{decimal}
use Rattle.text_lines.proofs.NumberLines.{number-text-length}
use Rattle.text_lines.proofs.put_line.Goals as goal

pub returns-clause-out_after : goal.returns-clause-out_after
returns-clause-out_after c =
    let a = c.args in
    let name = a.name.now in
    let l = number-text-length name a.n in
    let p = c.requires in
    let start : c.put_bytes-digits.result ≡ a.at + length name = c.put_bytes-digits.ensures.value in
    let end : c.put_decimal-end.result ≡ a.at + length (name ++ decimal a.n) =
    let f = c.put_decimal-end.ensures.value in let e = length-append name (decimal a.n) in omega arith in
    let middle : c.put_decimal-end.new.out ≡ put a.at (name ++ decimal a.n) a.out.now =
    c.put_decimal-end.ensures.out_after
    ∙ put_next a.at c.put_bytes-digits.result name (decimal a.n) a.out.now c.put_bytes-digits.new.out (omega arith) start c.put_bytes-digits.ensures.out_after in
    c.put_bytes.ensures.out_after
    ∙ put_next a.at c.put_decimal-end.result (name ++ decimal a.n) (10 ∷ []) a.out.now c.put_decimal-end.new.out (omega arith) end middle
    ∙ ap (λ (l : List ℕ). put a.at l a.out.now) (append_assoc name (decimal a.n) (10 ∷ []))
