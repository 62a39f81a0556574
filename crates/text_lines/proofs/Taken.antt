-- A line that is taken apart: a reading that goes on found one (`went_on`), and a test that yields one has passed (`passed`).
use mathlib.Core.Path.{◌≡◌, refl, ap}
use mathlib.Core.Bool.{Bool, true, cond}
use Prim.Native.Nat.{ℕ}
use Rattle.std.specs.Prelude.{Option, Some, None}
use Rattle.std.proofs.lemmas.Option.{none-some, same_Some, cond_some}
use Rattle.text_lines.specs.declared.Line.{Line}
use Rattle.text_lines.specs.Lines.{line_of, on_line}

module _ {T : Type 0} where
  -- one line, one value and one place
  pub same-line : (v w : T) (place next : ℕ) → Some (line_of v place) ≡ Some (line_of w next) → (v ≡ w) × (place ≡ next)
  same-line v w place next e =
      let s = same_Some (line_of v place) (line_of w next) e in
      (ap (λ (l : Line T). l.value) s, ap (λ (l : Line T). l.next) s)

  pub passed : (t : Bool) (v w : T) (place next : ℕ) → cond t (Some (line_of v place)) None ≡ Some (line_of w next)
      → (t ≡ true) × (v ≡ w) × (place ≡ next)
  passed t v w place next e =
      let p = cond_some t (line_of v place) (line_of w next) e in
      (p.0, ap (λ (l : Line T). l.value) p.1, ap (λ (l : Line T). l.next) p.1)

  pub went_on : {A P : Type 0} (line : Option (Line T)) (continue : T → ℕ → Option A) (a : A) → on_line line continue ≡ Some a
      → ((v : T) (next : ℕ) → line ≡ Some (line_of v next) → continue v next ≡ Some a → P) → P
  went_on (Some line) continue a e then = then line.value line.next refl e
  went_on None continue a e then = absurd (none-some a e)
