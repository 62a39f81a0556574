-- The text of a day, behind a name: how long it is (`text-length`), the numbers of its digits, two by two (`pair-value`, `year-value`), and that
-- the numbers in a real day's text are the day's (`written-day`).
use mathlib.Core.Path.{◌≡◌, ap, ◌∙◌}
use mathlib.Core.List.{List, ◌∷◌, ◌++◌}
use Prim.Native.Nat.{ℕ, ◌+◌, ◌-◌, ◌*◌, ◌/◌, ◌%◌, ◌≤◌, ◌<◌}
use native.Mathlib.Omega.{arith}
use lib.ListN.{length, take, drop, get_or}
use lib.Seq.{take-add}
use Rattle.text_lines.specs.Decimal.{value_from}
use Rattle.text_lines.proofs.DigitTexts.{step, value-append}
use Rattle.calendar.specs.declared.Day.{Day}
use Rattle.calendar.proofs.Days.{Real, days-high, same-day}
use Rattle.season_text.specs.DayLines.{day_text, day_in}

pub text-length : (d : Day) → length (day_text d) ≡ 11
unfolding day_text
text-length d = omega arith

-- ---- the numbers of digits

-- two digits behind the number `front`
pub pair-value : (front : ℕ) (text : List ℕ) (i : ℕ) → i + 2 ≤ length text
    → value_from front (take 2 (drop i text)) ≡ front * 100 + ((get_or text i 0 - 48) * 10 + (get_or text (i + 1) 0 - 48))
unfolding value_from
pair-value front text i h =
    let a = get_or text i 0 in
    let b = get_or text (i + 1) 0 in
    let here : drop i text ≡ a ∷ (b ∷ drop (i + 1 + 1) text) =
    step text i (omega arith) ∙ ap (λ (l : List ℕ). a ∷ l) (step text (i + 1) (omega arith)) in
    ap (λ (l : List ℕ). value_from front (take 2 l)) here
    ∙ (let e : (front * 10 + (a - 48)) * 10 + (b - 48) ≡ front * 100 + ((a - 48) * 10 + (b - 48)) = omega arith in e)

-- four are two and two
pub year-value : (text : List ℕ) → 4 ≤ length text
    → value_from 0 (take 2 (drop 0 text)) * 100 + value_from 0 (take 2 (drop 2 text)) ≡ value_from 0 (take 4 text)
year-value text h =
    let century = value_from 0 (take 2 text) in
    let whole : value_from 0 (take 4 text) ≡ value_from century (take 2 (drop 2 text)) =
    ap (value_from 0) (take-add 2 2 text) ∙ value-append 0 (take 2 text) (take 2 (drop 2 text)) in
    let p = pair-value century text 2 (omega arith) in
    let q = pair-value 0 text 2 (omega arith) in
    omega arith

-- ---- the numbers in a day's text

four-digits : (y : ℕ) → y < 10000 → (y / 1000 % 10 * 10 + y / 100 % 10) * 100 + (y / 10 % 10 * 10 + y % 10) ≡ y
four-digits y h =
    let tens : y / 10 ≡ y / 100 * 10 + y / 10 % 10 = omega arith in
    let hundreds : y / 100 ≡ y / 1000 * 10 + y / 100 % 10 = omega arith in
    let thousands : y / 1000 % 10 ≡ y / 1000 = omega arith in
    let ones : y ≡ y / 10 * 10 + y % 10 = omega arith in
    omega arith

pub written-day : (d : Day) (rest : List ℕ) → Real d → day_in (day_text d ++ rest) ≡ d
unfolding day_in day_text value_from
written-day d rest r =
    let most = days-high d.year d.month in
    let whole = four-digits d.year (omega arith) in
    same-day (day_in (day_text d ++ rest)) d (omega arith) (omega arith) (omega arith)
