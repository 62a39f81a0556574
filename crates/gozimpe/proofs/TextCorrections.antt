-- The calls of a correction from C by the verdict on the catalogue's text, as it was read: refused, nothing is written (`text-refused`, `answer-text-refused`);
-- else the call is the correction (`text-corrected`, `answer-text-corrected`). Under the text of an admitted catalogue each is the correction (`host-corrects`,
-- `host-corrects-answer`), and under any text it goes by the foremost of its faults (`correct-foremost`); the two return the same (`same-verdict`).
use mathlib.Core.Path.{◌≡◌, refl, sym, ap, ◌∙◌}
use mathlib.Core.List.{List}
use Prim.Native.Nat.{ℕ}
use lib.ListN.{length}
use Rattle.std.specs.Prelude.{Ok, Err}
use Rattle.refusal.specs.Verdicts.{Verdict, accepted}
use Rattle.refusal.specs.declared.Refusal.{Refusal}
use Rattle.refusal.specs.Foremost.{foremost}
use Rattle.refusal.proofs.Foremost.{after_first_lem}
use Rattle.refusal.proofs.Accepted.{accepted-none, none-accepted}
use Rattle.catalogue.specs.declared.Catalogue.{Catalogue}
use Rattle.catalogue.specs.Catalogue.{catalogue_faults, catalogue_verdict, Admitted}
use Rattle.catalogue.proofs.Faults.{after-catalogue}
use Rattle.catalogue_text.specs.declared.Reading.{Reading}
use Rattle.catalogue_text.specs.Text.{text_of}
use Rattle.catalogue_text.specs.Parsing.{catalogue_lines, read_faults, reading_by, read_of}
use Rattle.catalogue_text.proofs.RoundTrip.{written-reads-back}
use Rattle.correction.specs.declared.Edit.{Edit}
use Rattle.correction.specs.Calls.{DidCorrect, correct_by, correct_verdict, correcting, correcting_answer}
use Rattle.gozimpe.specs.Correcting.{correcting_by, correcting_text, correcting_answer_text, text_faults}

module _ (server : ℕ) (store query : List ℕ) (e : Edit) (answer : List ℕ) where
  module _ (text : List ℕ) (reading : Reading) (read : reading ≡ read_of text) where
    told : (v : Verdict) → reading.verdict ≡ v → (read_of text).verdict ≡ v
    told v q = ap (λ (r : Reading). r.verdict) (sym read) ∙ q

    pub text-refused : (refusal : Refusal) → reading.verdict ≡ Err refusal
        → DidCorrect (correcting_text text server store query e answer) (Err refusal) store answer
    unfolding correcting_text
    text-refused refusal q = rw (told (Err refusal) q) (record { verdict = refl; store = refl; answer = refl })

    pub text-corrected : reading.verdict ≡ accepted → (result : Verdict) (stored saved : List ℕ)
        → DidCorrect (correcting reading.catalogue server store query e answer) result stored saved
        → DidCorrect (correcting_text text server store query e answer) result stored saved
    unfolding correcting_text
    text-corrected q result stored saved did = rw (told accepted q, ← read) did

    pub answer-text-refused : (refusal : Refusal) → reading.verdict ≡ Err refusal
        → DidCorrect (correcting_answer_text text server store query e answer) (Err refusal) store answer
    unfolding correcting_answer_text
    answer-text-refused refusal q = rw (told (Err refusal) q) (record { verdict = refl; store = refl; answer = refl })

    pub answer-text-corrected : reading.verdict ≡ accepted → (result : Verdict) (stored saved : List ℕ)
        → DidCorrect (correcting_answer reading.catalogue server store query e answer) result stored saved
        → DidCorrect (correcting_answer_text text server store query e answer) result stored saved
    unfolding correcting_answer_text
    answer-text-corrected q result stored saved did = rw (told accepted q, ← read) did

  pub host-corrects : (c : Catalogue) → Admitted c → correcting_text (text_of c) server store query e answer ≡ correcting c server store query e answer
  unfolding correcting_text
  host-corrects c a = rw (written-reads-back c a)

  pub host-corrects-answer : (c : Catalogue) → Admitted c
      → correcting_answer_text (text_of c) server store query e answer ≡ correcting_answer c server store query e answer
  unfolding correcting_answer_text
  host-corrects-answer c a = rw (written-reads-back c a)

  module _ (text : List ℕ) where
    abbrev c : Catalogue
    c = (catalogue_lines text).catalogue

    pub correct-foremost : correcting_text text server store query e answer
        ≡ correct_by c store query e answer (foremost (text_faults text server (length store) query e (length answer)))
    unfolding correcting_text read_of correcting correct_verdict catalogue_verdict
    correct-foremost = go (foremost (read_faults text)) refl
      where
        all : Verdict
        all = foremost (text_faults text server (length store) query e (length answer))

        go : (v : Verdict) → v ≡ foremost (read_faults text)
            → correcting_by (reading_by v c).verdict (reading_by v c).catalogue (λ d. correcting d server store query e answer) store answer
            ≡ correct_by c store query e answer all
        go (Ok _) q =
            let admitted = none-accepted (catalogue_faults c) (accepted-none (read_faults text) (sym q)).1.1 in
            ap (correct_by c store query e answer)
            (sym (after-catalogue c _ refl accepted _ (sym admitted) refl) ∙ after_first_lem (read_faults text) _ refl refl accepted _ q refl)
        go (Err refusal) q =
            ap (correct_by c store query e answer) (after_first_lem (read_faults text) _ refl refl (Err refusal) (Err refusal) q refl)

    pub same-verdict : (correcting_answer_text text server store query e answer).verdict ≡ (correcting_text text server store query e answer).verdict
    unfolding correcting_answer_text correcting_text correcting_answer
    same-verdict = go (read_of text).verdict (read_of text).catalogue
      where
        go : (v : Verdict) (d : Catalogue)
            → (correcting_by v d (λ d. correcting_answer d server store query e answer) store answer).verdict
            ≡ (correcting_by v d (λ d. correcting d server store query e answer) store answer).verdict
        go (Ok _) d = refl
        go (Err refusal) d = refl
