-- The printer prints queries, or one of its numbers (`print-numbers`): an input out of form is 1, and any other goes by the foremost of its faults.
use mathlib.Core.Path.{◌≡◌, refl, ap, ◌∙◌}
use mathlib.Core.List.{List}
use mathlib.Core.Logic.{inl, inr}
use mathlib.Core.Option.{Option, none, some}
use Prim.Native.Nat.{ℕ}
use Rattle.lists.specs.Distinct.{stands}
use Rattle.std.specs.Prelude.{Ok, Err}
use Rattle.refusal.specs.Verdicts.{Verdict, accepted}
use Rattle.refusal.specs.Numbers.{refusal_of}
use Rattle.refusal.specs.Within.{OneOf}
use Rattle.refusal.proofs.Within.{faults-within}
use Rattle.scheme.specs.Scheme.{Scheme}
use Rattle.catalogue.specs.declared.Catalogue.{Catalogue}
use Rattle.printing.specs.Input.{Asked, input_asks}
use Rattle.printing.specs.Output.{asked_faults, asked_verdict, output_by, printed}
use Rattle.printing.specs.Numbers.{print_numbers, PrintNumbers}
use Rattle.printing.proofs.Answers.{answer-by}

module _ (scheme_of : Catalogue → Scheme) (input : List ℕ) where
  printed-by : (found : Option Asked) → input_asks input ≡ found → printed scheme_of input ≡ output_by scheme_of found
  unfolding printed
  printed-by found e = ap (output_by scheme_of) e

  text-named : OneOf print_numbers (refusal_of 1)
  unfolding OneOf stands
  text-named = refl

  pub print-numbers : PrintNumbers scheme_of input
  unfolding stands asked_verdict
  print-numbers = go (input_asks input) refl
    where
      by : (a : Asked) → input_asks input ≡ some a → (v : Verdict) → asked_verdict scheme_of a ≡ v → PrintNumbers scheme_of input
      by a e (Ok _) q = inl (record { asked = a; asks = e; accepted = q; output = printed-by (some a) e ∙ answer-by scheme_of a accepted q })
      by a e (Err refusal) q =
          inr (record {
            refusal = refusal;
            number = faults-within print_numbers (asked_faults scheme_of a) _ refl refl refusal q;
            output = printed-by (some a) e ∙ answer-by scheme_of a (Err refusal) q;
          })

      go : (found : Option Asked) → input_asks input ≡ found → PrintNumbers scheme_of input
      go none e = inr (record { refusal = refusal_of 1; number = text-named; output = printed-by none e })
      go (some a) e = by a e (asked_verdict scheme_of a) refl
