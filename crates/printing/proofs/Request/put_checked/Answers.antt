-- `printing::Request::put_checked` meets its contract: the part that is lent is filled with the key's numbers.
use mathlib.Core.Path.{◌≡◌, sym, ap, ◌∙◌}
use mathlib.Core.Bool.{Bool, true}
use mathlib.Core.List.{List, ◌++◌}
use Prim.Native.Nat.{ℕ, ◌≤◌}
use native.Mathlib.Omega.{arith}
use lib.ListN.{length, take, drop, length-append}
use lib.Seq.{length-take-le, take_at}
use Rattle.lists.specs.Below.{all_below}
use Rattle.lists.specs.Parts.{put}
use Rattle.codes.specs.Codes.{scheme_of}
use Rattle.std.specs.Prelude.{Some}
use Rattle.number_lists.specs.NumberLists.{numbers_at, scanned, scan_of, list_of}
use Rattle.printing.specs.Input.{asked}
use Rattle.printing.specs.Output.{answer_to}
use Rattle.printing.proofs.Answers.{Checked, check-passed}
use Rattle.printing.proofs.Room.{places-many, key_fits}
use Rattle.number_lists.proofs.Scanning.{scanned-list}
use Rattle.printing.proofs.Request.put_checked.Goals as goal
use Rattle.printing.proofs.Request.put_checked.Goals.{After-zeros-places}

-- what is known of the key's numbers, and of the part of the blank places that is lent for them
module _ (c : After-zeros-places) where
  abbrev count : ℕ
  count = c.args.self.now.count

  abbrev numbers : List ℕ
  numbers = list_of (numbers_at c.args.self.now.text.now c.args.self.now.at)

  passed : Checked scheme_of c.args.self.now.catalogue c.args.self.now.wanted count × (c.args.self.now.bytes ≡ true)
  passed = check-passed scheme_of c.args.self.now.catalogue c.args.self.now.wanted count c.args.self.now.bytes c.requires.true_value

  scan-is : scan_of (numbers_at c.args.self.now.text.now c.args.self.now.at) ≡ Some (scanned count true)
  scan-is = c.args.self.now.numbers ∙ ap (λ (all : Bool). Some (scanned count all)) passed.1

  found : (length numbers ≡ count) × (all_below 256 numbers ≡ true)
  found = scanned-list (numbers_at c.args.self.now.text.now c.args.self.now.at) count true scan-is

  fits : count ≤ length c.zeros-places.result
  fits =
      let due = passed.0.long in
      let f = key_fits c.args.self.now.catalogue passed.0.admitted in
      omega (arith, places-many _ c.zeros-places.ensures)

  part_length : length (take count c.zeros-places.result) ≡ count
  part_length = length-take-le count c.zeros-places.result fits

  -- the part that was lent, as it was left
  part-is : (lent : List ℕ) → lent ≡ numbers → take count (lent ++ drop count c.zeros-places.result) ≡ numbers
  part-is lent left = take_at lent (drop count c.zeros-places.result) count (ap length left ∙ found.0) ∙ left

pub slice_bounds-places-end : goal.slice_bounds-places-end
slice_bounds-places-end c = fits (goal.at.slice_bounds-places-end c).After-zeros-places

pub slice_bounds-put_numbers-end : goal.slice_bounds-put_numbers-end
slice_bounds-put_numbers-end c = sym (part_length (goal.at.slice_bounds-put_numbers-end c).After-zeros-places)

pub put_numbers-requires : goal.put_numbers-requires
put_numbers-requires c = let here = (goal.at.put_numbers-requires c).After-zeros-places in
    scan-is here ∙ ap (λ (n : ℕ). Some (scanned n true)) (sym (part_length here))

pub slice_bounds-places-end-2 : goal.slice_bounds-places-end-2
slice_bounds-places-end-2 c = let l = ap length c.put_numbers.ensures ∙ (found (goal.at.slice_bounds-places-end-2 c).After-zeros-places).0 in
    simp length-append (omega arith)

pub slice_bounds-put_keyed-end : goal.slice_bounds-put_keyed-end
slice_bounds-put_keyed-end c = let here = (goal.at.slice_bounds-put_keyed-end c).After-zeros-places in
    sym (ap length (part-is here c.put_numbers.new.out c.put_numbers.ensures) ∙ (found here).0)

pub put_keyed-requires : goal.put_keyed-requires
put_keyed-requires c = let here = (goal.at.put_keyed-requires c).After-zeros-places in
    let is = found here in
    let k = (passed here).0 in
    let part = part-is here c.put_numbers.new.out c.put_numbers.ensures in
    record {
      admitted = (k.admitted, k.inside);
      key_len = (ap length part ∙ is.0 ∙ k.long, ap (all_below 256) part ∙ is.1);
      size_value = c.requires.size_value;
    }

pub returns : goal.returns
returns c = let f = c.args.self.now in
    let part = part-is (goal.at.returns c).After-zeros-places c.put_numbers.new.out c.put_numbers.ensures in record {
      value = c.put_keyed.ensures.value ∙ ap (λ (key : List ℕ). length (answer_to scheme_of (asked f.catalogue f.wanted key))) part;
      out_after = c.put_keyed.ensures.out_after ∙ ap (λ (key : List ℕ). put 0 (answer_to scheme_of (asked f.catalogue f.wanted key)) c.args.out.now) part;
    }
