-- `number_lists::put_spaced` meets its contract: the first number, and the others after a space each, are written side by side.
use mathlib.Core.Path.{◌≡◌, sym, ap, ◌∙◌}
use mathlib.Core.List.{List, []}
use Prim.Native.Nat.{ℕ, ◌+◌}
use native.Mathlib.Omega.{arith}
use lib.ListN.{length, drop, get_or, length-append, length-take, length-drop}
use Rattle.lists.specs.Parts.{put}
use Rattle.lists.proofs.Cuts.{to_end}
use Rattle.lists.proofs.Puts.{put_next, put-nil}
use Rattle.text_lines.specs.Decimal.{decimal}
use Rattle.number_lists.specs.NumberLists.{after_spaces, spaced}
use Rattle.number_lists.proofs.Spaced.{byte-length, spaced-none, spaced-some}
use Rattle.number_lists.proofs.put_spaced.Goals as goal

pub returns-then-numbers-eq0 : goal.returns-then-numbers-eq0
returns-then-numbers-eq0 c = let a = c.args in
    let none : spaced a.numbers.now ≡ [] = spaced-none a.numbers.now (omega arith) in
    let l = ap length none in
    record {
      value = omega arith;
      upper_bound = omega arith;
      out_after = sym (ap (λ (t : List ℕ). put a.at t a.out.now) none ∙ put-nil a.at a.out.now);
    }

pub put_decimal-rest-requires : goal.put_decimal-rest-requires
put_decimal-rest-requires c = omega (arith, byte-length (get_or c.args.numbers.now 0 0) (omega (arith, c.type_inv.numbers 0)))

pub put_after_spaces-requires : goal.put_after_spaces-requires
put_after_spaces-requires c =
    let b = byte-length (get_or c.args.numbers.now 0 0) (omega (arith, c.type_inv.numbers 0)) in
    simp (length-take, length-drop) (omega (arith, b, c.put_decimal-rest.ensures.value, c.put_decimal-rest.auto.out))

pub returns : goal.returns
returns c =
    let a = c.args in
    let numbers = a.numbers.now in
    let first = decimal (get_or numbers 0 0) in
    let others = after_spaces (drop 1 numbers) in
    let b = byte-length (get_or numbers 0 0) (omega (arith, c.type_inv.numbers 0)) in
    let whole = spaced-some numbers (omega arith) in
    let l = ap length whole ∙ length-append first others in
    let d = length-drop 1 numbers in
    let end = to_end numbers 1 in
    let e = c.put_decimal-rest.ensures.value in
    let f : c.put_after_spaces.result ≡ c.put_decimal-rest.result + length others =
    c.put_after_spaces.ensures.value ∙ ap (λ (t : List ℕ). c.put_decimal-rest.result + length (after_spaces t)) end in
    let g = c.put_after_spaces.ensures.upper_bound in
    let h = ap length end in
    record {
      value = omega arith;
      upper_bound = omega arith;
      out_after = c.put_after_spaces.ensures.out_after
          ∙ ap (λ (t : List ℕ). put c.put_decimal-rest.result (after_spaces t) c.put_decimal-rest.new.out) end
          ∙ put_next a.at c.put_decimal-rest.result first others a.out.now c.put_decimal-rest.new.out (omega arith) e c.put_decimal-rest.ensures.out_after
          ∙ ap (λ (t : List ℕ). put a.at t a.out.now) (sym whole);
    }
