-- A catalogue's faults in front of a call's own: the catalogue's verdict decides, and else the chain of the others (`after-catalogue`), and the call
-- is accepted exactly if the catalogue is and none of the others is there (`call-passed`, `call-accepted`). The same where the day's faults follow
-- (`after-day`, `day-passed`, `day-accepted`).
use mathlib.Core.Path.{◌≡◌, refl, sym, ◌∙◌}
use mathlib.Core.Bool.{true, not, ◌&&◌}
use mathlib.Core.List.{List, ◌++◌}
use lib.Dec.{eqb}
use Rattle.lists.specs.Distinct.{stands}
use Rattle.refusal.specs.Verdicts.{Verdict, accepted}
use Rattle.refusal.specs.Foremost.{Fault, foremost}
use Rattle.refusal.specs.Chain.{refuse_if, and_then, chain}
use Rattle.refusal.specs.Within.{Within}
use Rattle.refusal.proofs.Chain.{chain-after}
use Rattle.refusal.proofs.Foremost.{ascending, foremost-chain, after_first_lem}
use Rattle.refusal.proofs.Accepted.{NoneThere, accepted-none, none-accepted, first-accepted, both-accepted}
use Rattle.refusal.proofs.Within.{faults-within}
use Rattle.calendar.specs.declared.Day.{Day}
use Rattle.calendar.specs.Calendar.{real_day, in_season}
use Rattle.catalogue.specs.declared.Catalogue.{Catalogue}
use Rattle.catalogue.specs.Catalogue.{in_bounds, whole_words, catalogue_faults, catalogue_numbers, catalogue_verdict, Admitted}
use Rattle.catalogue.specs.Days.{dated, day_faults, day_verdict, Served}

-- its own faults are that of the bounds, then that of a single message, then that of an odd symbol
pub catalogue-chain : (c : Catalogue)
    → catalogue_verdict c
    ≡ refuse_if (not (in_bounds c)) 2 (refuse_if (eqb c.messages 1) 17 (refuse_if (not (whole_words c.sum c.symbol)) 15 accepted))
unfolding catalogue_verdict
catalogue-chain c = foremost-chain (catalogue_faults c) refl

pub catalogue-within : (c : Catalogue) → Within catalogue_numbers (catalogue_verdict c)
unfolding catalogue_verdict stands
catalogue-within c = faults-within catalogue_numbers (catalogue_faults c) _ refl refl

module _ (c : Catalogue) (faults : List Fault) where
  -- v is the verdict on the catalogue, r that on the call
  pub after-catalogue : ascending (catalogue_faults c ++ faults) ≡ true → (v r : Verdict)
      → v ≡ catalogue_verdict c → r ≡ and_then v (chain faults) → r ≡ foremost (catalogue_faults c ++ faults)
  unfolding catalogue_verdict
  after-catalogue e = after_first_lem (catalogue_faults c) faults refl e

  pub call-passed : foremost (catalogue_faults c ++ faults) ≡ accepted → Admitted c × NoneThere faults
  unfolding catalogue_verdict
  call-passed = first-accepted (catalogue_faults c) faults

  pub call-accepted : Admitted c → NoneThere faults → foremost (catalogue_faults c ++ faults) ≡ accepted
  unfolding catalogue_verdict
  call-accepted = both-accepted (catalogue_faults c) faults

-- ---- the day's faults

module _ (c : Catalogue) (day : Day) where
  -- that of a day which is not real, then that of one outside the season
  pub day-chain : day_verdict c day
      ≡ refuse_if (dated c && not (real_day day)) 13 (refuse_if (dated c && not (in_season c.opening c.closing day)) 14 accepted)
  unfolding day_verdict
  day-chain = foremost-chain (day_faults c day) refl

  -- under an admitted catalogue: v is the verdict on the day, r that on the call
  pub after-day : (faults : List Fault) → ascending (catalogue_faults c ++ (day_faults c day ++ faults)) ≡ true → (v r : Verdict)
      → Admitted c → v ≡ day_verdict c day → r ≡ and_then v (chain faults) → r ≡ foremost (catalogue_faults c ++ (day_faults c day ++ faults))
  unfolding day_verdict
  after-day faults e v r a d p =
      after-catalogue c (day_faults c day ++ faults) e accepted r (sym a)
      (chain-after (day_faults c day) faults v r (d ∙ foremost-chain (day_faults c day) refl) p)

  pub day-passed : (faults : List Fault) → foremost (catalogue_faults c ++ (day_faults c day ++ faults)) ≡ accepted
      → Admitted c × Served c day × NoneThere faults
  unfolding day_verdict
  day-passed faults e =
      let p = call-passed c (day_faults c day ++ faults) e in
      (p.0, none-accepted (day_faults c day) (p.1.0, (p.1.1.0, tt)), p.1.1.1)

  pub day-accepted : (faults : List Fault) → Admitted c → Served c day → NoneThere faults
      → foremost (catalogue_faults c ++ (day_faults c day ++ faults)) ≡ accepted
  unfolding day_verdict
  day-accepted faults a s n =
      let d = accepted-none (day_faults c day) s in call-accepted c (day_faults c day ++ faults) a (d.0, (d.1.0, n))
