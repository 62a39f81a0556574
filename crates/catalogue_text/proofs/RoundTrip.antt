-- Catalogue text and catalogue value turn into each other without change (demand 2: `written-reads-back`, `read-is-written`). A text is refused 1
-- exactly if it is no value's with any lengths (`refused-text`), and else exactly as its value is (`refused-value`). `text_of` is what `write` writes,
-- `read_of` what `read` answers, `lines_of` what `read_lines` answers.
use mathlib.Core.Path.{◌≡◌, refl, sym, ap, ◌∙◌}
use mathlib.Core.Bool.{Bool, true, false, true≢false}
use mathlib.Core.List.{List, [], ◌++◌, append-nil}
use mathlib.Core.Logic.{◌↔◌, ◌⊎◌, inl, inr, ⊎_elim}
use Prim.Native.Nat.{ℕ}
use borrow.Author.Tests.{eq-eqb, eqb-true}
use lib.Dec.{eqb}
use lib.ListN.{length, drop}
use lib.Seq.{drop-length}
use Rattle.lists.specs.Distinct.{stands}
use Rattle.std.specs.Prelude.{Ok, Err}
use Rattle.refusal.specs.Verdicts.{Verdict, accepted}
use Rattle.refusal.specs.declared.Refusal.{Refusal}
use Rattle.refusal.specs.Numbers.{refusal_of}
use Rattle.refusal.specs.Chain.{refused}
use Rattle.refusal.specs.Within.{OneOf}
use Rattle.refusal.proofs.Chain.{not-refused, same-refusal}
use Rattle.catalogue.specs.declared.Catalogue.{Catalogue}
use Rattle.catalogue.specs.Catalogue.{catalogue_verdict, Admitted}
use Rattle.catalogue.proofs.Faults.{catalogue-within}
use Rattle.catalogue_text.specs.declared.Lines.{Lines}
use Rattle.catalogue_text.specs.declared.Reading.{Reading}
use Rattle.catalogue_text.specs.Text.{text_with, own_numbers, text_of, Ends, Writable}
use Rattle.catalogue_text.specs.Parsing.{catalogue_lines, lines_by, lines_of, refused_lines, unread, reading_by, read_of}
use Rattle.catalogue_text.proofs.Faults.{read_is, lines-is}
use Rattle.catalogue_text.proofs.TextParts.{admitted-writable, own-numbers}
use Rattle.catalogue_text.proofs.Ends.{ends-nothing}
use Rattle.catalogue_text.proofs.CatalogueLines.{LinesRead, lines-written, lines-cases}

-- ---- what decides a reading

-- a value and lengths whose text this is
abbrev pub Said : List ℕ → Type 0
Said text = (c : Catalogue) × (ns : List ℕ) × Writable c ns × (text_with c ns ≡ text)

-- the text of a value is judged as the value is
text-judged : (c : Catalogue) (ns : List ℕ) → Writable c ns → read_of (text_with c ns) ≡ reading_by (catalogue_verdict c) c
text-judged c ns fit =
    let text = text_with c ns in
    let found : catalogue_lines text ≡ record { verdict = accepted; catalogue = c; next = length text } =
    ap catalogue_lines (sym (append-nil text)) ∙ lines-written c ns [] fit (ends-nothing c ns) in
    read_is text ∙ simp (found, eq-eqb (length text) (length text) refl)

-- a text is the text of a value, or it is refused 1
pub text-or-refused : (text : List ℕ) → Said text ⊎ (read_of text ≡ unread (refusal_of 1))
text-or-refused text = ⊎_elim no_lines (λ r. go r.0 r.1 (eqb (catalogue_lines text).next (length text)) refl) (lines-cases text)
  where
    no_lines : catalogue_lines text ≡ refused_lines (refusal_of 1) → Said text ⊎ (read_of text ≡ unread (refusal_of 1))
    no_lines e = inr (read_is text ∙ simp e)

    go : (ns : List ℕ) → LinesRead text (catalogue_lines text) ns → (t : Bool) → eqb (catalogue_lines text).next (length text) ≡ t
        → Said text ⊎ (read_of text ≡ unread (refusal_of 1))
    go ns r true e =
        let all = text_with (catalogue_lines text).catalogue ns in
        let end : drop (catalogue_lines text).next text ≡ [] =
        ap (λ (n : ℕ). drop n text) (eqb-true (catalogue_lines text).next (length text) e) ∙ drop-length text in
        inl ((catalogue_lines text).catalogue, ns, r.writable, sym (r.here ∙ ap (λ (l : List ℕ). all ++ l) end ∙ append-nil all))
    go ns r false e = inr (read_is text ∙ simp (r.accepted, e))

pub reading-verdict : (v : Verdict) (c : Catalogue) → (reading_by v c).verdict ≡ v
reading-verdict (Ok _) c = refl
reading-verdict (Err refusal) c = refl

pub text-verdict : (c : Catalogue) (ns text : List ℕ) → Writable c ns → text_with c ns ≡ text → (read_of text).verdict ≡ catalogue_verdict c
text-verdict c ns text fit e =
    ap (λ (t : List ℕ). (read_of t).verdict) (sym e) ∙ ap (λ (r : Reading). r.verdict) (text-judged c ns fit) ∙ reading-verdict (catalogue_verdict c) c

-- a value's own verdict is never 1
not-text : (c : Catalogue) → catalogue_verdict c ≡ refused 1 → ⊥
unfolding OneOf stands
not-text c e = true≢false (sym (catalogue-within c (refusal_of 1) e))

-- ---- the whole text

-- what the writer writes reads back
pub written-reads-back : (c : Catalogue) → Admitted c → read_of (text_of c) ≡ record { verdict = accepted; catalogue = c }
unfolding text_of
written-reads-back c a = text-judged c (own_numbers c) (admitted-writable c a) ∙ ap (λ (v : Verdict). reading_by v c) a

-- what is read is what the writer writes for its value
pub read-is-written : (text : List ℕ) → (read_of text).verdict ≡ accepted → Admitted (read_of text).catalogue × (text_of (read_of text).catalogue ≡ text)
unfolding text_of
read-is-written text e = ⊎_elim of-value no_text (text-or-refused text)
  where
    of-value : Said text → Admitted (read_of text).catalogue × (text_of (read_of text).catalogue ≡ text)
    of-value v =
        let c = v.0 in
        let a : Admitted c = sym (text-verdict c v.1 text v.2 v.3) ∙ e in
        let own : text_of c ≡ text = ap (text_with c) (sym (own-numbers c v.1 a v.2)) ∙ v.3 in
        let same : (read_of text).catalogue ≡ c =
        ap (λ (t : List ℕ). (read_of t).catalogue) (sym own) ∙ ap (λ (r : Reading). r.catalogue) (written-reads-back c a) in
        rw same (a, own)

    no_text : read_of text ≡ unread (refusal_of 1) → Admitted (read_of text).catalogue × (text_of (read_of text).catalogue ≡ text)
    no_text r = not-refused (refusal_of 1) (sym (ap (λ (r : Reading). r.verdict) r) ∙ e)

-- refused 1 exactly if the text is no value's with any lengths
pub refused-text : (text : List ℕ) → ((read_of text).verdict ≡ refused 1) ↔ (Said text → ⊥)
refused-text text = (no_value, no_text)
  where
    no_value : (read_of text).verdict ≡ refused 1 → Said text → ⊥
    no_value e v = not-text v.0 (sym (text-verdict v.0 v.1 text v.2 v.3) ∙ e)

    no_text : (Said text → ⊥) → (read_of text).verdict ≡ refused 1
    no_text none = ⊎_elim (λ v. absurd (none v)) (λ e. ap (λ (r : Reading). r.verdict) e) (text-or-refused text)

-- refused with another number exactly if the text is that of a value which is refused with it
pub refused-value : (text : List ℕ) (refusal : Refusal) → (refusal ≡ refusal_of 1 → ⊥)
    → ((read_of text).verdict ≡ Err refusal) ↔ ((v : Said text) × (catalogue_verdict v.0 ≡ Err refusal))
refused-value text refusal other = (of-value, λ v. text-verdict v.0.0 v.0.1 text v.0.2 v.0.3 ∙ v.1)
  where
    of-value : (read_of text).verdict ≡ Err refusal → (v : Said text) × (catalogue_verdict v.0 ≡ Err refusal)
    of-value e =
        ⊎_elim
        (λ v. (v, sym (text-verdict v.0 v.1 text v.2 v.3) ∙ e))
        (λ r. absurd (other (same-refusal (sym e ∙ ap (λ (r : Reading). r.verdict) r))))
        (text-or-refused text)

-- ---- the lines at the start of a text

-- what the writer writes reads back, whatever follows it and does not go on with it
pub written-lines-read-back : (c : Catalogue) (rest : List ℕ) → Admitted c → Ends c (own_numbers c) rest
    → lines_of (text_of c ++ rest) ≡ record { verdict = accepted; catalogue = c; next = length (text_of c) }
unfolding text_of
written-lines-read-back c rest a ends =
    lines-is (text_of c ++ rest) ∙ simp (lines-written c (own_numbers c) rest (admitted-writable c a) ends, a)

-- lines that are read are what the writer writes for their value, which ends at `next`
pub lines-are-written : (text : List ℕ) → (lines_of text).verdict ≡ accepted
    → Admitted (lines_of text).catalogue × LinesRead text (lines_of text) (own_numbers (lines_of text).catalogue)
lines-are-written text e = ⊎_elim no_lines (λ r. found r.0 r.1) (lines-cases text)
  where
    Written : Type 0
    Written = Admitted (lines_of text).catalogue × LinesRead text (lines_of text) (own_numbers (lines_of text).catalogue)

    no_lines : catalogue_lines text ≡ refused_lines (refusal_of 1) → Written
    no_lines r = not-refused (refusal_of 1) (sym (ap (λ (l : Lines). l.verdict) (lines-is text) ∙ simp r) ∙ e)

    found : (ns : List ℕ) → LinesRead text (catalogue_lines text) ns → Written
    found ns r = go (catalogue_verdict (catalogue_lines text).catalogue) refl
      where
        go : (v : Verdict) → catalogue_verdict (catalogue_lines text).catalogue ≡ v → Written
        go (Ok _) a =
            let same : lines_of text ≡ catalogue_lines text = lines-is text ∙ simp (r.accepted, a) in
            let own = own-numbers (catalogue_lines text).catalogue ns a r.writable in
            rw same (a, rw own at r)
        go (Err refusal) b = not-refused refusal (sym (ap (λ (l : Lines). l.verdict) (lines-is text) ∙ simp (r.accepted, b)) ∙ e)

-- the text of a value is judged as the value is, where it ends
pub lines-verdict : (c : Catalogue) (ns rest text : List ℕ) → Writable c ns → Ends c ns rest → text_with c ns ++ rest ≡ text
    → (lines_of text).verdict ≡ catalogue_verdict c
lines-verdict c ns rest text fit ends e =
    ap (λ (t : List ℕ). (lines_of t).verdict) (sym e)
    ∙ ap (λ (l : Lines). l.verdict) (lines-is (text_with c ns ++ rest))
    ∙ simp (lines-written c ns rest fit ends) (by-verdict (catalogue_verdict c))
  where
    by-verdict : (v : Verdict) → (lines_by v (record { verdict = accepted; catalogue = c; next = length (text_with c ns) })).verdict ≡ v
    by-verdict (Ok _) = refl
    by-verdict (Err refusal) = refl

-- a value and lengths whose text stands at the start and ends there
abbrev pub Begun : List ℕ → Type 0
Begun text = (c : Catalogue) × (ns : List ℕ) × (rest : List ℕ) × Writable c ns × Ends c ns rest × (text_with c ns ++ rest ≡ text)

begun-verdict : (text : List ℕ) (v : Begun text) → (lines_of text).verdict ≡ catalogue_verdict v.0
begun-verdict text v = lines-verdict v.0 v.1 v.2 text v.3 v.4 v.5

-- the text of a value stands at the start and ends there, or the lines are refused 1
pub starts-or-refused : (text : List ℕ) → Begun text ⊎ (lines_of text ≡ refused_lines (refusal_of 1))
starts-or-refused text =
    ⊎_elim (λ (e : catalogue_lines text ≡ refused_lines (refusal_of 1)). inr (lines-is text ∙ simp e))
    (λ (r : (ns : List ℕ) × LinesRead text (catalogue_lines text) ns).
    inl ((catalogue_lines text).catalogue, r.0, drop (catalogue_lines text).next text, r.1.writable, r.1.ends, sym r.1.here))
    (lines-cases text)

-- refused 1 exactly if no value's text stands at the start and ends there
pub lines-refused-text : (text : List ℕ) → ((lines_of text).verdict ≡ refused 1) ↔ (Begun text → ⊥)
lines-refused-text text = (no_value, no_text)
  where
    no_value : (lines_of text).verdict ≡ refused 1 → Begun text → ⊥
    no_value e v = not-text v.0 (sym (begun-verdict text v) ∙ e)

    no_text : (Begun text → ⊥) → (lines_of text).verdict ≡ refused 1
    no_text none = ⊎_elim (λ v. absurd (none v)) (λ e. ap (λ (l : Lines). l.verdict) e) (starts-or-refused text)

-- refused with another number exactly if that of a value stands there which is refused with it
pub lines-refused-value : (text : List ℕ) (refusal : Refusal) → (refusal ≡ refusal_of 1 → ⊥)
    → ((lines_of text).verdict ≡ Err refusal) ↔ ((v : Begun text) × (catalogue_verdict v.0 ≡ Err refusal))
lines-refused-value text refusal other = (of-value, λ v. begun-verdict text v.0 ∙ v.1)
  where
    of-value : (lines_of text).verdict ≡ Err refusal → (v : Begun text) × (catalogue_verdict v.0 ≡ Err refusal)
    of-value e =
        ⊎_elim
        (λ v. (v, sym (begun-verdict text v) ∙ e))
        (λ r. absurd (other (same-refusal (sym e ∙ ap (λ (l : Lines). l.verdict) r))))
        (starts-or-refused text)
