-- The first pass over a list of numbers: what it says after some of them (`scan-last`, `scan-more`, `scan-other`), and what it says of the
-- whole list (`scanned-list`, `scan-refused`). Rests on `Reading`.
use mathlib.Core.Path.{◌≡◌, refl, sym, ap, ap₂, ◌∙◌}
use mathlib.Core.Bool.{Bool, true, false, cond, ◌&&◌, and-true, and-false}
use mathlib.Core.List.{List, [], ◌∷◌}
use mathlib.Core.Option.{Option, none, some}
use Prim.Native.Nat.{ℕ, suc, ◌+◌, ◌-◌, ◌≤◌, ◌<◌}
use native.Mathlib.Nat.{zero-add}
use native.Mathlib.Omega.{arith}
use lib.Dec.{ltb, eqb}
use lib.ListN.{length, get_or, get_or-eq_default}
use Rattle.lists.specs.Below.{all_below}
use Rattle.std.specs.Prelude.{Some, None, Option as Found}
use Rattle.std.proofs.lemmas.Option.{none-some, same_Some}
use Rattle.text_lines.specs.Lines.{line_of}
use Rattle.number_lists.specs.declared.Scanned.{Scanned}
use Rattle.number_lists.specs.NumberLists.{numeral_at, ends_at, before, numbers_from, scanned, scan_of, list_of}
use Rattle.number_lists.proofs.Reading.{at_none, at_last, at_more, at_other}

-- what a pass says that came by `count` numbers already, all bytes or not, if these are left
abbrev scan_after : ℕ → Bool → Option (List ℕ) → Found Scanned
scan_after count bytes none = None
scan_after count bytes (some numbers) = Some (scanned (count + length numbers) (bytes && all_below 256 numbers))

moved : (b t a : Bool) → b && cond t a false ≡ (b && t) && a
moved b true a = ap (λ (c : Bool). c && a) (sym (and-true b))
moved b false a = and-false b ∙ ap (λ (c : Bool). c && a) (sym (and-false b))

after_more : (count : ℕ) (bytes : Bool) (n : ℕ) (o : Option (List ℕ))
    → scan_after count bytes (before n o) ≡ scan_after (count + 1) (bytes && ltb n 256) o
unfolding all_below
after_more count bytes n none = refl
after_more count bytes n (some numbers) =
    ap₂ (λ (m : ℕ) (b : Bool). Some (scanned m b))
    (let e : count + suc (length numbers) ≡ count + 1 + length numbers = omega arith in e) (moved bytes (ltb n 256) (all_below 256 numbers))

after_last : (count : ℕ) (bytes : Bool) (n : ℕ) → scan_after count bytes (some (n ∷ [])) ≡ Some (scanned (count + 1) (bytes && ltb n 256))
unfolding all_below
after_last count bytes n = ap (λ (b : Bool). Some (scanned (count + 1) b)) (moved bytes (ltb n 256) true ∙ and-true (bytes && ltb n 256))

-- ---- the pass from place to place

-- what is said at place `at`, after `count` numbers
abbrev pub scan_left : List ℕ → ℕ → ℕ → Bool → Found Scanned
scan_left text at count bytes = scan_after count bytes (numbers_from (length text - count) text at)

starts : (o : Option (List ℕ)) → scan_of o ≡ scan_after 0 true o
starts none = refl
starts (some numbers) = ap (λ (n : ℕ). Some (scanned n (all_below 256 numbers))) (sym (zero-add (length numbers)))

pub scan-starts : (text : List ℕ) (at : ℕ) → scan_of (numbers_from (length text) text at) ≡ scan_left text at 0 true
scan-starts text at =
    starts (numbers_from (length text) text at)
    ∙ ap (λ (m : ℕ). scan_after 0 true (numbers_from m text at)) (let e : length text ≡ length text - 0 = omega arith in e)

module _ (text : List ℕ) (at count : ℕ) (bytes : Bool) where
  pub scan-none : numeral_at text at ≡ None → scan_left text at count bytes ≡ None
  scan-none e = ap (scan_after count bytes) (at_none (length text - count) text at e)

  module _ (n end : ℕ) (within : count < length text) (e : numeral_at text at ≡ Some (line_of n end)) where
    left : {A : Type 0} (f : ℕ → A) → f (length text - count) ≡ f (suc (length text - (count + 1)))
    left f = ap f (let s : length text - count ≡ suc (length text - (count + 1)) = omega arith in s)

    abbrev rest : ℕ
    rest = length text - (count + 1)

    pub scan-last : ends_at text end ≡ true → scan_left text at count bytes ≡ Some (scanned (count + 1) (bytes && ltb n 256))
    scan-last f =
        left (λ m. scan_after count bytes (numbers_from m text at))
        ∙ ap (scan_after count bytes) (at_last rest text at n end e f) ∙ after_last count bytes n

    pub scan-other : ends_at text end ≡ false → eqb (get_or text end 0) 32 ≡ false → scan_left text at count bytes ≡ None
    scan-other f g = left (λ m. scan_after count bytes (numbers_from m text at)) ∙ ap (scan_after count bytes) (at_other rest text at n end e f g)

    -- no byte stands past the end
    pub scan-past : length text ≤ end → scan_left text at count bytes ≡ None
    scan-past h = let past = get_or-eq_default text 0 {n = end} h in scan-other (simp past) (simp past)

    pub scan-more : ends_at text end ≡ false → eqb (get_or text end 0) 32 ≡ true
        → scan_left text at count bytes ≡ scan_left text (end + 1) (count + 1) (bytes && ltb n 256)
    scan-more f g =
        left (λ m. scan_after count bytes (numbers_from m text at))
        ∙ ap (scan_after count bytes) (at_more rest text at n end e f g) ∙ after_more count bytes n (numbers_from rest text (end + 1))

-- ---- what the pass says of the whole list

module _ (o : Option (List ℕ)) (count : ℕ) (bytes : Bool) where
  pub scanned-list : scan_of o ≡ Some (scanned count bytes) → (length (list_of o) ≡ count) × (all_below 256 (list_of o) ≡ bytes)
  scanned-list e = go o e
    where
      go : (p : Option (List ℕ)) → scan_of p ≡ Some (scanned count bytes) → (length (list_of p) ≡ count) × (all_below 256 (list_of p) ≡ bytes)
      go none f = absurd (none-some (scanned count bytes) f)
      go (some numbers) f =
          let s = same_Some _ (scanned count bytes) f in
          (ap (λ (x : Scanned). x.count) s, ap (λ (x : Scanned). x.bytes) s)

  pub scanned-some : scan_of o ≡ Some (scanned count bytes) → o ≡ some (list_of o)
  scanned-some e = go o e
    where
      go : (p : Option (List ℕ)) → scan_of p ≡ Some (scanned count bytes) → p ≡ some (list_of p)
      go none f = absurd (none-some (scanned count bytes) f)
      go (some numbers) f = refl

pub scan-refused : (o : Option (List ℕ)) → scan_of o ≡ None → o ≡ none
scan-refused none e = refl
scan-refused (some numbers) e = absurd (none-some _ (sym e))
