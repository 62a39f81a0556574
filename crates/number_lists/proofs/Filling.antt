-- The second pass over a list of numbers, which writes those that the first one counted: each stands where the pass comes to it
-- (`next-there`, `next-value`), and behind it those that are left (`next-left`). Rests on `First`.
use mathlib.Core.Path.{◌≡◌, sym, ap, ◌∙◌}
use mathlib.Core.List.{List, ◌∷◌}
use mathlib.Core.Option.{some}
use Prim.Native.Nat.{ℕ, suc, ◌+◌, ◌-◌, ◌<◌}
use native.Mathlib.Omega.{arith}
use lib.ListN.{length, drop, get_or, length-drop}
use Rattle.std.specs.Prelude.{Some, None}
use Rattle.std.proofs.lemmas.Option.{none-some}
use Rattle.text_lines.specs.Lines.{line_of}
use Rattle.text_lines.proofs.Taken.{same-line}
use Rattle.text_lines.proofs.DigitTexts.{step}
use Rattle.number_lists.specs.NumberLists.{numeral_at, numbers_from, numbers_at, list_of}
use Rattle.number_lists.proofs.Reading.{First, some_left, first-number, numbers-some}

-- after i of the numbers, the others are read from place `at` on
abbrev pub LeftAt : List ℕ → List ℕ → ℕ → ℕ → Type 0
LeftAt text numbers at i = i < length numbers → numbers_from (length text - i) text at ≡ some (drop i numbers)

pub left-first : (text : List ℕ) (at : ℕ) → LeftAt text (list_of (numbers_at text at)) at 0
left-first text at h =
    ap (λ (m : ℕ). numbers_from m text at) (let e : length text - 0 ≡ length text = omega arith in e) ∙ numbers-some text at h

module _ (text numbers : List ℕ) (at i : ℕ) (left : LeftAt text numbers at i) (h : i < length numbers) where
  -- the next of them
  next : First (length text - (i + 1)) text at (get_or numbers i 0) (drop (i + 1) numbers)
  next =
      let e : numbers_from (length text - i) text at ≡ some (get_or numbers i 0 ∷ drop (i + 1) numbers) = left h ∙ ap some (step numbers i h) in
      let some_more = some_left (length text - i) text at (get_or numbers i 0 ∷ drop (i + 1) numbers) e in
      let one_less : suc (length text - (i + 1)) ≡ length text - i = omega arith in
      first-number (length text - (i + 1)) text at (get_or numbers i 0) (drop (i + 1) numbers) (ap (λ (m : ℕ). numbers_from m text at) one_less ∙ e)

  pub next-there : {A : Type 0} → numeral_at text at ≡ None → A
  next-there e = absurd (none-some (line_of (get_or numbers i 0) next.end) (sym e ∙ next.found))

  module _ (n end : ℕ) (e : numeral_at text at ≡ Some (line_of n end)) where
    same : (n ≡ get_or numbers i 0) × (end ≡ next.end)
    same = same-line n (get_or numbers i 0) end next.end (sym e ∙ next.found)

    pub next-value : n ≡ get_or numbers i 0
    next-value = same.0

    pub next-left : LeftAt text numbers (end + 1) (i + 1)
    next-left k =
        ap (λ (m : ℕ). numbers_from (length text - (i + 1)) text (m + 1)) same.1 ∙ next.later (let l = length-drop (i + 1) numbers in omega arith)
