-- `number_lists::put_numbers` meets its contract: after i turns the first i numbers are written, and the others are still to be read.
use mathlib.Core.Path.{◌≡◌, refl, sym, ap, ap₂, ◌∙◌}
use mathlib.Core.Bool.{true}
use mathlib.Core.List.{List, ◌++◌, append-nil}
use Prim.Native.Nat.{ℕ, ◌≤◌, ◌<◌}
use native.Mathlib.Omega.{arith}
use lib.ListN.{length, take, drop, set, get_or, drop_of_length-le}
use lib.Seq.{take_all}
use Rattle.lists.proofs.Below.{all_below-below}
use Rattle.lists.proofs.Puts.{copy_more}
use Rattle.number_lists.specs.NumberLists.{numbers_at, list_of}
use Rattle.number_lists.proofs.Reading.{numeral-within}
use Rattle.number_lists.proofs.Scanning.{scanned-list}
use Rattle.number_lists.proofs.Filling.{left-first, next-there, next-value, next-left}
use Rattle.number_lists.proofs.put_numbers.Goals as goal

filled : (numbers first : List ℕ) (i : ℕ) → length numbers ≤ i → length first ≤ i → take i numbers ++ drop i first ≡ numbers
filled numbers first i h k =
    ap₂ (λ (s t : List ℕ). s ++ t) (take_all i numbers h) (drop_of_length-le first k) ∙ append-nil numbers

pub loop-place-init : goal.loop-place-init
loop-place-init c =
    let a = c.args in
    let scan = scanned-list (numbers_at a.text.now a.start) (length a.out.now) true c.requires in
    record {
      many = scan.0;
      bytes = scan.1;
      written = refl;
      left = left-first a.text.now a.start;
    }

pub returns-in_default : goal.returns-in_default
returns-in_default c =
    let a = c.args in
    let inv = c.loop-place.invariant in
    let numbers = list_of (numbers_at a.text.now a.start) in
    next-there a.text.now numbers c.loop-place.at c.loop-place.place-index inv.left (omega (arith, inv.many)) (sym c.number_at.ensures ∙ c.in_default.is)

pub overflow_cast-place : goal.overflow_cast-place
overflow_cast-place c =
    let a = c.args in
    let inv = c.loop-place.invariant in
    let i = c.loop-place.place-index in
    let numbers = list_of (numbers_at a.text.now a.start) in
    let within : i < length numbers = omega (arith, inv.many) in
    let v = next-value a.text.now numbers c.loop-place.at i inv.left within _ _ (sym c.number_at.ensures ∙ c.in-Some.is) in
    let b = all_below-below 256 numbers inv.bytes i within in
    omega arith

pub overflow_add-at : goal.overflow_add-at
overflow_add-at c = let w = numeral-within c.args.text.now c.loop-place.at _ _ (sym c.number_at.ensures ∙ c.in-Some.is) in omega arith

pub loop-place-preserved : goal.loop-place-preserved
loop-place-preserved c =
    let a = c.args in
    let inv = c.loop-place.invariant in
    let i = c.loop-place.place-index in
    let numbers = list_of (numbers_at a.text.now a.start) in
    let here = sym c.number_at.ensures ∙ c.in-Some.is in
    let within : i < length numbers = omega (arith, inv.many) in
    let v = next-value a.text.now numbers c.loop-place.at i inv.left within _ _ here in
    record {
      many = inv.many;
      bytes = inv.bytes;
      written =
          ap (λ (n : ℕ). set c.loop-place.out i n) v
          ∙ ap (λ (l : List ℕ). set l i (get_or numbers i 0)) inv.written
          ∙ copy_more numbers a.out.now i within (omega arith);
      left = next-left a.text.now numbers c.loop-place.at i inv.left within _ _ here;
    }
