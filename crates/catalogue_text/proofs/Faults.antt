-- A reading goes by the verdict on its lines, then by the end of the text, then by the catalogue's own verdict (`read_is`, `lines-is`); and what a
-- writing did by its verdict (`wrote-refused`, `wrote-text`).
use mathlib.Core.Path.{◌≡◌, refl, ap, ◌∙◌}
use mathlib.Core.Bool.{not}
use mathlib.Core.List.{List, [], ◌∷◌}
use mathlib.Core.Logic.{⊎_elim}
use Prim.Native.Nat.{ℕ}
use lib.Dec.{eqb}
use lib.ListN.{length}
use Rattle.lists.specs.Parts.{put}
use Rattle.std.specs.Prelude.{Ok, Err}
use Rattle.refusal.specs.Verdicts.{Verdict, accepted}
use Rattle.refusal.specs.declared.Refusal.{Refusal}
use Rattle.refusal.specs.Foremost.{foremost}
use Rattle.refusal.specs.Chain.{refuse_if, and_then}
use Rattle.refusal.proofs.Foremost.{foremost-chain}
use Rattle.catalogue.specs.declared.Catalogue.{Catalogue}
use Rattle.catalogue.specs.Catalogue.{catalogue_verdict}
use Rattle.catalogue.proofs.Faults.{catalogue-chain}
use Rattle.catalogue_text.specs.Text.{text_of}
use Rattle.catalogue_text.specs.Parsing.{catalogue_lines, line_fault, lines_faults, lines_by, lines_of, read_faults, reading_by, read_of}
use Rattle.catalogue_text.specs.Writing.{write_verdict, Wrote}
use Rattle.catalogue_text.proofs.CatalogueLines.{lines-cases}

module _ (text : List ℕ) where
  -- the lines are refused with 1 or not at all
  pub line-chain : foremost (line_fault text ∷ []) ≡ (catalogue_lines text).verdict
  line-chain = foremost-chain (line_fault text ∷ []) refl ∙ ⊎_elim (λ e. rw e) (λ r. rw r.1.accepted) (lines-cases text)

  pub lines-chain : foremost (lines_faults text) ≡ and_then (catalogue_lines text).verdict (catalogue_verdict (catalogue_lines text).catalogue)
  lines-chain =
      foremost-chain (lines_faults text) refl
      ∙ ⊎_elim (λ e. rw e) (λ r. rw (r.1.accepted, catalogue-chain (catalogue_lines text).catalogue)) (lines-cases text)

  -- a whole text: the lines, then its end, then the catalogue
  abbrev pub read_verdict : Verdict
  read_verdict =
      and_then (catalogue_lines text).verdict
      (refuse_if (not (eqb (catalogue_lines text).next (length text))) 1 (catalogue_verdict (catalogue_lines text).catalogue))

  pub read-chain : foremost (read_faults text) ≡ read_verdict
  read-chain =
      foremost-chain (read_faults text) refl
      ∙ ⊎_elim (λ e. rw e) (λ r. rw (r.1.accepted, catalogue-chain (catalogue_lines text).catalogue)) (lines-cases text)

  pub read_is : read_of text ≡ reading_by read_verdict (catalogue_lines text).catalogue
  unfolding read_of
  read_is = ap (λ (v : Verdict). reading_by v (catalogue_lines text).catalogue) read-chain

  pub lines-is : lines_of text ≡ lines_by (and_then (catalogue_lines text).verdict (catalogue_verdict (catalogue_lines text).catalogue)) (catalogue_lines text)
  unfolding lines_of
  lines-is = ap (λ (v : Verdict). lines_by v (catalogue_lines text)) lines-chain

module _ (c : Catalogue) (buffer : List ℕ) where
  pub wrote-refused : (refusal : Refusal) → Err refusal ≡ write_verdict c (length buffer) → Wrote c buffer (Err refusal) buffer
  wrote-refused refusal e = record { outcome-is = rw (← e); after_is = rw (← e) }

  pub wrote-text : (size : ℕ) (after : List ℕ) → accepted ≡ write_verdict c (length buffer) → size ≡ length (text_of c) → after ≡ put 0 (text_of c) buffer
      → Wrote c buffer (Ok size) after
  wrote-text size after e s a = record { outcome-is = rw (← e, s); after_is = rw (← e) a }
