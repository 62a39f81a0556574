-- Answering gives only numbers of its faults (`answer-within`), and these are its own (`answer-numbers`).
use mathlib.Core.Path.{◌≡◌, refl}
use mathlib.Core.Bool.{true}
use mathlib.Core.List.{List}
use Prim.Native.Nat.{ℕ}
use lib.ListN.{length}
use Rattle.lists.specs.Distinct.{stands}
use Rattle.refusal.specs.Verdicts.{Verdict}
use Rattle.refusal.specs.Within.{ValueWithin}
use Rattle.refusal.proofs.Within.{faults_named, faults-within, value-within}
use Rattle.scheme.specs.Scheme.{Scheme}
use Rattle.calendar.specs.declared.Day.{Day}
use Rattle.catalogue.specs.declared.Catalogue.{Catalogue}
use Rattle.server.specs.Answering.{answer_faults, answer_verdict, answer_by, answering}
use Rattle.server.specs.Numbers.{answer_numbers, AnswerNumbers}

module _ (scheme_of : Catalogue → Scheme) where
  pub answer-within : (numbers : List ℕ) (c : Catalogue) (day : Day) (server : ℕ) (store query buffer : List ℕ)
      → faults_named numbers (answer_faults scheme_of c day server (length store) query (length buffer)) ≡ true
      → ValueWithin numbers (answering scheme_of c day server store query buffer).outcome
  unfolding answering answer_verdict
  answer-within numbers c day server store query buffer e =
      value-within numbers (λ (v : Verdict). (answer_by scheme_of c store query buffer v).outcome) ((scheme_of c).answer_length query) refl (λ refusal. refl)
      (answer_verdict scheme_of c day server (length store) query (length buffer))
      (faults-within numbers (answer_faults scheme_of c day server (length store) query (length buffer)) _ e refl)

  pub answer-numbers : AnswerNumbers scheme_of
  unfolding stands
  answer-numbers c day server store query buffer = answer-within answer_numbers c day server store query buffer refl
