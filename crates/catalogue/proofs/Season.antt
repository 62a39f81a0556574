-- On which days an admitted catalogue is served: without dates on all (`undated-served`), with dates exactly on the real days of its season
-- (`served-exactly`), of which the opening day is one (`opening-served`) and the closing day is not (`closing-refused`).
use mathlib.Core.Path.{◌≡◌, refl, sym, ◌∙◌}
use mathlib.Core.Bool.{Bool, true, false, true≢false, not, ◌&&◌}
use mathlib.Core.Logic.{◌↔◌, ◌⊎◌, inl, inr}
use Rattle.lists.proofs.Both.{both_true}
use Rattle.refusal.specs.Verdicts.{accepted}
use Rattle.refusal.specs.Numbers.{refusal_of}
use Rattle.refusal.specs.Chain.{refused, refuse_if}
use Rattle.refusal.proofs.Chain.{not-refused, other-number}
use Rattle.calendar.specs.declared.Day.{Day}
use Rattle.calendar.specs.Calendar.{real_day, before, in_season, undated}
use Rattle.calendar.proofs.Order.{opening-inside, closing-outside}
use Rattle.catalogue.specs.declared.Catalogue.{Catalogue}
use Rattle.catalogue.specs.Catalogue.{dates_fit, Admitted}
use Rattle.catalogue.specs.Days.{day_verdict, Served}
use Rattle.catalogue.proofs.Admitted.{admitted-dates}
use Rattle.catalogue.proofs.Faults.{day-chain}

-- what the dates of an admitted catalogue are, if it has any
pub record Dates (c : Catalogue) : Type 0 where
  pub opening-real : real_day c.opening ≡ true
  pub closing-real : real_day c.closing ≡ true
  pub opens : before c.opening c.closing ≡ true

pub admitted-season : (c : Catalogue) → Admitted c → undated c.opening c.closing ≡ false → Dates c
unfolding dates_fit
admitted-season c a with-dates =
    let fit : real_day c.opening && (real_day c.closing && before c.opening c.closing) ≡ true = rw with-dates at (admitted-dates c a) in
    let p = both_true (real_day c.opening) (real_day c.closing && before c.opening c.closing) fit in
    let q = both_true (real_day c.closing) (before c.opening c.closing) p.1 in
    record { opening-real = p.0; closing-real = q.0; opens = q.1 }

module _ (c : Catalogue) (day : Day) where
  judged : (none real inside : Bool) → undated c.opening c.closing ≡ none → real_day day ≡ real → in_season c.opening c.closing day ≡ inside
      → day_verdict c day ≡ refuse_if (not none && not real) 13 (refuse_if (not none && not inside) 14 accepted)
  judged none real inside e f g = day-chain c day ∙ rw (e, f, g)

  pub undated-served : undated c.opening c.closing ≡ true → Served c day
  undated-served e = judged true (real_day day) (in_season c.opening c.closing day) e refl refl

  -- without dates and served; with dates on no real day and refused 13, or on a real one outside the season and refused 14, or inside and served
  cases : {A : Type 0} → (undated c.opening c.closing ≡ true → Served c day → A)
      → (undated c.opening c.closing ≡ false → real_day day ≡ false → day_verdict c day ≡ refused 13 → A)
      → (undated c.opening c.closing ≡ false → real_day day ≡ true → in_season c.opening c.closing day ≡ false → day_verdict c day ≡ refused 14 → A)
      → (undated c.opening c.closing ≡ false → real_day day ≡ true → in_season c.opening c.closing day ≡ true → Served c day → A) → A
  cases {A} no-dates unreal outside inside =
      go (undated c.opening c.closing) (real_day day) (in_season c.opening c.closing day) refl refl refl
    where
      go : (none real within : Bool) → undated c.opening c.closing ≡ none → real_day day ≡ real → in_season c.opening c.closing day ≡ within → A
      go true real within e f g = no-dates e (judged true real within e f g)
      go false false within e f g = unreal e f (judged false false within e f g)
      go false true false e f g = outside e f g (judged false true false e f g)
      go false true true e f g = inside e f g (judged false true true e f g)

  -- served exactly if there are no dates, or the day is real and in the season
  pub served-exactly : Served c day
      ↔ ((undated c.opening c.closing ≡ true) ⊎ ((real_day day ≡ true) × (in_season c.opening c.closing day ≡ true)))
  served-exactly = (
    λ s. cases (λ e v. inl e) (λ e f v. not-refused (refusal_of 13) (sym v ∙ s)) (λ e f g v. not-refused (refusal_of 14) (sym v ∙ s)) (λ e f g v. inr (f, g)),
    to,
  )
    where
      to : (undated c.opening c.closing ≡ true) ⊎ ((real_day day ≡ true) × (in_season c.opening c.closing day ≡ true)) → Served c day
      to (inl e) = undated-served e
      to (inr h) = cases (λ e v. v) (λ e f v. absurd (true≢false (sym h.0 ∙ f))) (λ e f g v. absurd (true≢false (sym h.1 ∙ g))) (λ e f g v. v)

  -- refused 13 exactly if there are dates, and the day is not real
  pub refused-unreal : (day_verdict c day ≡ refused 13) ↔ ((undated c.opening c.closing ≡ false) × (real_day day ≡ false))
  refused-unreal = (
    λ r. cases (λ e v. not-refused (refusal_of 13) (sym r ∙ v)) (λ e f v. (e, f)) (λ e f g v. other-number (refusal_of 14) (refusal_of 13) refl (sym v ∙ r))
        (λ e f g v. not-refused (refusal_of 13) (sym r ∙ v)),
    λ h. judged false false (in_season c.opening c.closing day) h.0 h.1 refl,
  )

  -- refused 14 exactly if there are dates, and the day is real and outside the season
  pub refused-season : (day_verdict c day ≡ refused 14)
      ↔ ((undated c.opening c.closing ≡ false) × (real_day day ≡ true) × (in_season c.opening c.closing day ≡ false))
  refused-season = (
    λ r. cases (λ e v. not-refused (refusal_of 14) (sym r ∙ v)) (λ e f v. other-number (refusal_of 13) (refusal_of 14) refl (sym v ∙ r))
        (λ e f g v. (e, f, g)) (λ e f g v. not-refused (refusal_of 14) (sym r ∙ v)),
    λ h. judged false true false h.0 h.1 h.2,
  )

-- ---- the two ends of a season

pub opening-served : (c : Catalogue) → Admitted c → Served c c.opening
opening-served c a = go (undated c.opening c.closing) refl
  where
    go : (none : Bool) → undated c.opening c.closing ≡ none → Served c c.opening
    go true e = undated-served c c.opening e
    go false e =
        let s = admitted-season c a e in
        (served-exactly c c.opening).1 (inr (s.opening-real, opening-inside c.opening c.closing s.opens))

pub closing-refused : (c : Catalogue) → Admitted c → undated c.opening c.closing ≡ false → day_verdict c c.closing ≡ refused 14
closing-refused c a e =
    (refused-season c c.closing).1 (e, (admitted-season c a e).closing-real, closing-outside c.opening c.closing)
