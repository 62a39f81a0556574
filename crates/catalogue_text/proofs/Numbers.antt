-- Reading and writing give only their own numbers (`text-numbers`): their verdicts are the foremost of their faults (`read-within`).
use mathlib.Core.Path.{◌≡◌, refl, sym, ◌∙◌}
use mathlib.Core.Bool.{true, false, true≢false}
use mathlib.Core.List.{List, [], ◌∷◌, ◌++◌}
use Prim.Native.Nat.{ℕ}
use lib.ListN.{length}
use Rattle.lists.specs.Distinct.{stands}
use Rattle.std.specs.Prelude.{Ok, Err}
use Rattle.refusal.specs.Verdicts.{accepted, Verdict, Outcome}
use Rattle.refusal.specs.Foremost.{foremost}
use Rattle.refusal.specs.Chain.{refuses}
use Rattle.refusal.specs.Within.{Within, ValueWithin}
use Rattle.refusal.proofs.Accepted.{accepted-none}
use Rattle.refusal.proofs.Within.{faults_named, faults-within, value-within}
use Rattle.catalogue.specs.declared.Catalogue.{Catalogue}
use Rattle.catalogue.specs.Catalogue.{catalogue_numbers}
use Rattle.catalogue_text.specs.Text.{text_of}
use Rattle.catalogue_text.specs.Parsing.{catalogue_lines, line_fault, lines_faults, lines_by, lines_of, read_faults, read_of}
use Rattle.catalogue_text.specs.Writing.{write_faults, write_verdict, outcome_by, Wrote}
use Rattle.catalogue_text.specs.Numbers.{TextNumbers}
use Rattle.catalogue_text.proofs.Faults.{line-chain}
use Rattle.catalogue_text.proofs.RoundTrip.{reading-verdict}

pub read-verdict : (text : List ℕ) → (read_of text).verdict ≡ foremost (read_faults text)
unfolding read_of
read-verdict text = reading-verdict (foremost (read_faults text)) (catalogue_lines text).catalogue

pub read-within : (numbers text : List ℕ) → faults_named numbers (read_faults text) ≡ true → Within numbers (read_of text).verdict
read-within numbers text e = faults-within numbers (read_faults text) _ e (read-verdict text)

not-refusing : (v : Verdict) → refuses v ≡ false → v ≡ accepted
not-refusing (Ok _) e = refl
not-refusing (Err refusal) e = absurd (true≢false e)

lines-verdict : (text : List ℕ) → (lines_of text).verdict ≡ foremost (lines_faults text)
unfolding lines_of
lines-verdict text = go (foremost (lines_faults text)) refl
  where
    go : (v : Verdict) → foremost (lines_faults text) ≡ v → (lines_by v (catalogue_lines text)).verdict ≡ v
    go (Ok _) e = not-refusing (catalogue_lines text).verdict (accepted-none (lines_faults text) e).0
    go (Err refusal) e = refl

write-within : (c : Catalogue) (buffer after : List ℕ) (outcome : Outcome) → Wrote c buffer outcome after
    → ValueWithin (catalogue_numbers ++ (9 ∷ [])) outcome
unfolding stands write_verdict
write-within c buffer after outcome wrote refusal e =
    value-within _ (λ (v : Verdict). outcome_by v (text_of c)) (length (text_of c)) refl (λ other. refl)
    (write_verdict c (length buffer))
    (faults-within _ (write_faults c (length buffer)) _ refl refl)
    refusal (sym wrote.outcome-is ∙ e)

pub text-numbers : TextNumbers
unfolding stands
text-numbers = record {
  reads = λ text. read-within (1 ∷ catalogue_numbers) text refl;
  lines = λ text. faults-within (1 ∷ catalogue_numbers) (lines_faults text) _ refl (lines-verdict text);
  in-form = λ text. faults-within (1 ∷ []) (line_fault text ∷ []) _ refl (sym (line-chain text));
  writes = write-within;
}
