-- The calls from C give only their numbers (`host-numbers`, `correcting-numbers`): each goes by the foremost of its faults.
use mathlib.Core.Path.{◌≡◌, refl}
use mathlib.Core.List.{List, ◌∷◌}
use Prim.Native.Nat.{ℕ}
use lib.ListN.{length}
use Rattle.lists.specs.Distinct.{stands}
use Rattle.std.specs.Prelude.{Ok, Err}
use Rattle.refusal.specs.Verdicts.{Verdict}
use Rattle.refusal.specs.Foremost.{foremost}
use Rattle.refusal.specs.Within.{Within, ValueWithin}
use Rattle.refusal.proofs.Within.{faults-within, value-within}
use Rattle.calendar.specs.declared.Day.{Day}
use Rattle.catalogue.specs.declared.Catalogue.{Catalogue}
use Rattle.catalogue.specs.Catalogue.{catalogue_numbers}
use Rattle.catalogue_text.specs.Parsing.{catalogue_lines, read_faults}
use Rattle.codes.specs.Codes.{scheme_of}
use Rattle.server.specs.Answering.{answer_by}
use Rattle.server.specs.Numbers.{answer_numbers}
use Rattle.correction.specs.declared.Edit.{Edit}
use Rattle.correction.specs.Calls.{correct_numbers, correct_by}
use Rattle.gozimpe.specs.Host.{answering_text, host_faults, longest_by, longest_answer}
use Rattle.gozimpe.specs.Correcting.{correcting_text, correcting_answer_text, text_faults}
use Rattle.gozimpe.specs.Numbers.{HostNumbers, CorrectingNumbers}
use Rattle.gozimpe.proofs.Host.{host-foremost, longest-foremost}
use Rattle.gozimpe.proofs.TextCorrections.{correct-foremost, same-verdict}

module _ (text : List ℕ) where
  abbrev c : Catalogue
  c = (catalogue_lines text).catalogue

  answer-numbers : (day : Day) (server : ℕ) (store query buffer : List ℕ)
      → ValueWithin (1 ∷ answer_numbers) (answering_text text day server store query buffer).outcome
  unfolding stands
  answer-numbers day server store query buffer =
      let faults = host_faults text day server (length store) query (length buffer) in
      rw (host-foremost text day server store query buffer)
      (value-within (1 ∷ answer_numbers) (λ (v : Verdict). (answer_by scheme_of c store query buffer v).outcome) ((scheme_of c).answer_length query)
      refl (λ refusal. refl) (foremost faults) (faults-within _ faults _ refl refl))

  longest-numbers : ValueWithin (1 ∷ catalogue_numbers) (longest_answer text)
  unfolding stands
  longest-numbers =
      rw (longest-foremost text)
      (value-within (1 ∷ catalogue_numbers) (λ (v : Verdict). longest_by v c) (scheme_of c).sizes.slot
      refl (λ refusal. refl) (foremost (read_faults text)) (faults-within _ (read_faults text) _ refl refl))

  module _ (server : ℕ) (store query : List ℕ) (e : Edit) (answer : List ℕ) where
    by-verdict : (v : Verdict) → (correct_by c store query e answer v).verdict ≡ v
    by-verdict (Ok _) = refl
    by-verdict (Err refusal) = refl

    correct-numbers : Within (1 ∷ correct_numbers) (correcting_text text server store query e answer).verdict
    unfolding stands
    correct-numbers =
        let faults = text_faults text server (length store) query e (length answer) in
        rw (correct-foremost server store query e answer text, by-verdict (foremost faults)) (faults-within _ faults _ refl refl)

    answer-numbers-too : Within (1 ∷ correct_numbers) (correcting_answer_text text server store query e answer).verdict
    answer-numbers-too = rw (same-verdict server store query e answer text) correct-numbers

pub host-numbers : HostNumbers
host-numbers = record { answers = answer-numbers; longest = longest-numbers }

pub correcting-numbers : CorrectingNumbers
correcting-numbers = record { corrects = correct-numbers; corrects-answer = answer-numbers-too }
