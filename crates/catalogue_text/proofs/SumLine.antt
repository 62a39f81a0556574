-- The line of the sum, or none: what is written reads back (`sum-written`), and what is read is what is written for its sum, which ends there
-- (`sum-read`).
use mathlib.Core.Path.{◌≡◌, refl, sym, ap, ◌∙◌}
use mathlib.Core.Bool.{Bool, true, false, cond, ◌&&◌}
use mathlib.Core.List.{List, ◌++◌}
use Prim.Native.Nat.{ℕ, ◌+◌}
use native.Mathlib.Omega.{arith}
use lib.ListN.{length, drop}
use lib.Seq.{drop-drop}
use Rattle.std.specs.Prelude.{Some, None}
use Rattle.std.proofs.lemmas.Option.{none-some}
use Rattle.text_lines.specs.Lines.{begins, line_of}
use Rattle.text_lines.proofs.Taken.{same-line}
use Rattle.text_lines.proofs.Begins.{begins-split}
use Rattle.symbol.specs.declared.Operation.{Operation}
use Rattle.symbol.specs.declared.Operation.TheVariants.{ExclusiveOr, Addition}
use Rattle.catalogue_text.specs.Text.{sum_name, sum_text, unsummed}
use Rattle.catalogue_text.specs.Parsing.{sum_line}

-- no line of the sum was read, and one begins
abbrev pub sum_goes_on : Operation → List ℕ → Bool
sum_goes_on sum rest = unsummed sum && begins sum_name rest

pub sum-written : (sum : Operation) (text rest : List ℕ) (at : ℕ) → drop at text ≡ sum_text sum ++ rest → sum_goes_on sum rest ≡ false
    → sum_line text at ≡ Some (line_of sum (at + length (sum_text sum)))
unfolding sum_line begins
sum-written ExclusiveOr text rest at e ends = rw (e, ends) (ap (λ (e : ℕ). Some (line_of ExclusiveOr e)) (let z : at ≡ at + 0 = omega arith in z))
sum-written Addition text rest at e ends = rw e

-- the line of the sum that was read, or none
pub record SumRead (text : List ℕ) (at : ℕ) (sum : Operation) (next : ℕ) : Type 0 where
  pub next-is : next ≡ at + length (sum_text sum)
  pub here : drop at text ≡ sum_text sum ++ drop next text
  pub ends : sum_goes_on sum (drop next text) ≡ false

pub sum-read : (text : List ℕ) (at : ℕ) (sum : Operation) (next : ℕ) → sum_line text at ≡ Some (line_of sum next) → SumRead text at sum next
unfolding sum_line
sum-read text at sum next e = go (begins sum_name (drop at text)) (begins (sum_text Addition) (drop at text)) refl refl e
  where
    go : (s t : Bool) → begins sum_name (drop at text) ≡ s → begins (sum_text Addition) (drop at text) ≡ t
        → cond s (cond t (Some (line_of Addition (at + 8))) None) (Some (line_of ExclusiveOr at)) ≡ Some (line_of sum next) → SumRead text at sum next
    go true true named added e =
        let p = same-line Addition sum (at + 8) next e in
        let this : SumRead text at Addition (at + 8) =
        record {
          next-is = refl;
          here = begins-split (sum_text Addition) (drop at text) added ∙ ap (λ (l : List ℕ). sum_text Addition ++ l) (drop-drop 8 at text);
          ends = refl;
        } in
        rw (p.0, p.1) at this
    go true false named added e = absurd (none-some (line_of sum next) e)
    go false t named added e =
        let p = same-line ExclusiveOr sum at next e in
        rw (sym p.0, sym p.1) (record { next-is = omega arith; here = refl; ends = named })
