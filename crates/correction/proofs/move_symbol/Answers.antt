-- `correction::move_symbol` meets its contract: only the word of the changed byte is moved, and there the code moves it.
use mathlib.Core.Path.{◌≡◌, sym, ap, ◌∙◌}
use mathlib.Core.List.{List}
use Prim.Native.Nat.{ℕ, ◌+◌, ◌-◌, ◌*◌, ◌/◌, ◌%◌}
use native.Mathlib.Omega.{arith}
use lib.ListN.{length, take, drop}
use lib.Seq.{length-take-le}
use Rattle.lists.specs.Below.{Below}
use Rattle.symbol.specs.Operations.{sum_of}
use Rattle.correction.proofs.Bytes.{shift-long}
use Rattle.correction.proofs.Local.{lent-long, moved-part}
use Rattle.correction.proofs.move_symbol.Goals as goal

pub slice_bounds-combine-end-2 : goal.slice_bounds-combine-end-2
slice_bounds-combine-end-2 c = let a = c.args in
    let pair = c.shift_of-shift in
    let two : length c.shift_of-shift.result ≡ 2 = ap length c.shift_of-shift.ensures ∙ shift-long a.op 2 (a.byte % 2) a.new a.old in
    sym (length-take-le c.min-size.result c.shift_of-shift.result (omega (arith, c.min-size.ensures, two)))

pub combine-requires : goal.combine-requires
combine-requires c = let a = c.args in
    let size = c.min-size.result in
    let fit = c.min-size.ensures in
    let pair = c.shift_of-shift in
    let two : length c.shift_of-shift.result ≡ 2 = ap length c.shift_of-shift.ensures ∙ shift-long a.op 2 (a.byte % 2) a.new a.old in
    length-take-le size c.shift_of-shift.result (omega (arith, fit, two)) ∙ sym (lent-long _ size a.part.now (omega (arith, fit, c.requires)))

pub returns : goal.returns
returns c = let a = c.args in
    let size = c.min-size.result in
    let from = a.byte / 2 * 2 in
    let bytes : Below 256 a.part.now = λ i l. (c.slice_known-1.given i).fits in
    moved-part a.op a.byte a.new a.old size a.part.now c.requires c.min-size.ensures bytes
    c.combine.new.dst
    (c.combine.ensures
    ∙ ap (λ (l : List ℕ). (sum_of a.op).plus (take (from + size - from) (drop from a.part.now)) (take size l))
    c.shift_of-shift.ensures)
