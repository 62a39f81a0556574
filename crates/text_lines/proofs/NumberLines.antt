-- A line of a name and a number: past the end of a text there is none (`past_end`), a name that a text begins with lies within it
-- (`begins-rest`, `name-within`), and how long the line is (`number-text-length`).
use mathlib.Core.Path.{◌≡◌, sym, ap, ◌∙◌}
use mathlib.Core.Bool.{Bool, true}
use mathlib.Core.List.{List, [], ◌∷◌, ◌++◌}
use Prim.Native.Nat.{ℕ, suc, ◌+◌, ◌-◌, ◌^◌, ◌≤◌, ◌<◌}
use native.Mathlib.Omega.{arith}
use lib.ListN.{length, take, drop, length-append, length-drop, drop_of_length-le}
use Rattle.std.specs.Prelude.{None}
use Rattle.lists.proofs.Cuts.{to_end}
use Rattle.text_lines.specs.Decimal.{decimal, digit_count}
use Rattle.text_lines.specs.Lines.{number_text, begins, is_numeral, number_at, number_line}
use Rattle.text_lines.proofs.Decimal.{length_most}
use Rattle.text_lines.proofs.Begins.{begins-split}

pub past_end : (most : ℕ) (name text : List ℕ) (at : ℕ) → length text < at → number_line most name text at ≡ None
unfolding number_line begins number_at digit_count is_numeral
past_end most [] text at h = simp (drop_of_length-le text {i = at + 0} (omega arith))
past_end most (x ∷ name) text at h = simp (drop_of_length-le text {i = at} (omega arith))

-- what a test of the rest of a text, lent, says
pub begins-rest : (name text : List ℕ) (at : ℕ) {r s : Bool} → r ≡ begins name (take (length text - at) (drop at text)) → r ≡ s
    → begins name (drop at text) ≡ s
begins-rest name text at e f = sym (e ∙ ap (begins name) (to_end text at)) ∙ f

pub name-within : (name text : List ℕ) (at : ℕ) → at ≤ length text → begins name (drop at text) ≡ true → at + length name ≤ length text
name-within name text at h e =
    let l = ap length (begins-split name (drop at text) e) ∙ length-append name (drop (length name) (drop at text)) in
    let d = length-drop at text in
    omega arith

-- ---- writing

pub number-text-length : (name : List ℕ) (n : ℕ) → length (number_text name n) ≡ length name + length (decimal n) + 1
number-text-length name n =
    let e = length-append name (decimal n ++ (10 ∷ [])) in let d = length-append (decimal n) (10 ∷ []) in omega arith

-- the line of a number with at most `places` + 1 digits
pub number-text-most : (name : List ℕ) (places n : ℕ) → n < 10 ^ suc places → length (number_text name n) ≤ length name + places + 2
number-text-most name places n h = let l = number-text-length name n in let d = length_most places n h in omega arith
