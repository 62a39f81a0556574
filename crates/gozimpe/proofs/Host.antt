-- The call that servers run: under the text of an admitted catalogue it is the answering of the claim on lists of fetches (`host-answers`), and under
-- any text it goes by the foremost of its faults (`host-foremost`, `longest-foremost`).
use mathlib.Core.Path.{◌≡◌, refl, sym, ap, ◌∙◌}
use mathlib.Core.List.{List}
use Prim.Native.Nat.{ℕ}
use lib.ListN.{length}
use Rattle.std.specs.Prelude.{Ok, Err}
use Rattle.refusal.specs.Verdicts.{Verdict, accepted}
use Rattle.refusal.specs.Foremost.{foremost}
use Rattle.refusal.proofs.Foremost.{after_first_lem}
use Rattle.refusal.proofs.Accepted.{accepted-none, none-accepted}
use Rattle.calendar.specs.declared.Day.{Day}
use Rattle.catalogue.specs.declared.Catalogue.{Catalogue}
use Rattle.catalogue.specs.Catalogue.{catalogue_faults, catalogue_verdict, Admitted}
use Rattle.catalogue.proofs.Faults.{after-catalogue}
use Rattle.catalogue_text.specs.Text.{text_of}
use Rattle.catalogue_text.specs.Parsing.{catalogue_lines, read_faults, reading_by, read_of}
use Rattle.catalogue_text.proofs.RoundTrip.{written-reads-back}
use Rattle.codes.specs.Codes.{scheme_of}
use Rattle.server.specs.Answering.{answer_verdict, answer_by, answering}
use Rattle.gozimpe.specs.Host.{answering_by, answering_text, host_faults, longest_by, longest_answer}

pub host-answers : (c : Catalogue) → Admitted c → (day : Day) (server : ℕ) (store query buffer : List ℕ)
    → answering_text (text_of c) day server store query buffer ≡ answering scheme_of c day server store query buffer
unfolding answering_text
host-answers c a day server store query buffer = rw (written-reads-back c a)

module _ (text : List ℕ) where
  abbrev c : Catalogue
  c = (catalogue_lines text).catalogue

  pub host-foremost : (day : Day) (server : ℕ) (store query buffer : List ℕ)
      → answering_text text day server store query buffer
      ≡ answer_by scheme_of c store query buffer (foremost (host_faults text day server (length store) query (length buffer)))
  unfolding answering_text read_of answering answer_verdict catalogue_verdict
  host-foremost day server store query buffer = go (foremost (read_faults text)) refl
    where
      all : Verdict
      all = foremost (host_faults text day server (length store) query (length buffer))

      go : (v : Verdict) → v ≡ foremost (read_faults text)
          → answering_by (reading_by v c).verdict (reading_by v c).catalogue day server store query buffer ≡ answer_by scheme_of c store query buffer all
      go (Ok _) e =
          let admitted = none-accepted (catalogue_faults c) (accepted-none (read_faults text) (sym e)).1.1 in
          ap (answer_by scheme_of c store query buffer)
          (sym (after-catalogue c _ refl accepted _ (sym admitted) refl) ∙ after_first_lem (read_faults text) _ refl refl accepted _ e refl)
      go (Err refusal) e =
          ap (answer_by scheme_of c store query buffer) (after_first_lem (read_faults text) _ refl refl (Err refusal) (Err refusal) e refl)

  pub longest-foremost : longest_answer text ≡ longest_by (foremost (read_faults text)) c
  unfolding longest_answer read_of
  longest-foremost = go (foremost (read_faults text))
    where
      go : (v : Verdict) → longest_by (reading_by v c).verdict (reading_by v c).catalogue ≡ longest_by v c
      go (Ok _) = refl
      go (Err refusal) = refl
