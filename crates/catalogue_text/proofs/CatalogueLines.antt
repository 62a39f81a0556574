-- The lines of a catalogue: what is written reads back, whatever follows it and does not go on with it (`lines-written`), and what is read is a
-- catalogue's text with some lengths, which ends there (`lines-cases`).
use mathlib.Core.Path.{◌≡◌, refl, sym, ap, ◌∙◌}
use mathlib.Core.Bool.{false}
use mathlib.Core.List.{List, ◌++◌, append_assoc}
use mathlib.Core.Logic.{◌⊎◌, inl, inr}
use Prim.Native.Nat.{ℕ, ◌+◌}
use native.Mathlib.Omega.{arith}
use lib.ListN.{length, drop, length-append}
use lib.Seq.{drop-append_seam}
use Rattle.lists.proofs.Cuts.{drop-after}
use Rattle.refusal.specs.Verdicts.{accepted}
use Rattle.refusal.specs.Numbers.{refusal_of}
use Rattle.symbol.specs.declared.Operation.{Operation}
use Rattle.std.specs.Prelude.{Option, Some, None, Ok}
use Rattle.text_lines.specs.declared.Line.{Line}
use Rattle.text_lines.specs.Lines.{begins, line_of}
use Rattle.calendar.specs.declared.Day.{Day}
use Rattle.season_text.specs.declared.Season.{Season}
use Rattle.season_text.specs.SeasonLines.{season_text, season_of, season_lines, dates_go_on}
use Rattle.season_text.proofs.SeasonLines.{season-written, SeasonRead, season-read}
use Rattle.lengths.specs.declared.Lengths.{Lengths}
use Rattle.length_text.specs.declared.LengthLines.{LengthLines}
use Rattle.length_text.specs.LengthLines.{length_text, length_lines}
use Rattle.length_text.proofs.RoundTrip.{lengths-written, LengthsRead, lengths_read}
use Rattle.catalogue.specs.declared.Code.{Code}
use Rattle.catalogue.specs.declared.Catalogue.{Catalogue}
use Rattle.catalogue_text.specs.declared.First.{First}
use Rattle.catalogue_text.specs.declared.Lines.{Lines}
use Rattle.catalogue_text.specs.Text.{sum_name, sum_text, head_text, text_with, unsummed, Ends, Writable}
use Rattle.catalogue_text.specs.Parsing.{
  sum_line,
  refused_lines,
  first_of,
  first_lines,
  after_first,
  after_season,
  after_sum,
  after_lengths,
  catalogue_of,
  catalogue_lines,
}
use Rattle.catalogue_text.proofs.TextParts.{first_text, head-parts, parts-length}
use Rattle.catalogue_text.proofs.FirstLines.{first-written, FirstRead, first_read}
use Rattle.catalogue_text.proofs.SumLine.{sum_goes_on, sum-written, SumRead, sum-read}
use Rattle.catalogue_text.proofs.Ends.{dates-end, parts-end, both_end, ends-head, head-ends}

-- ---- what is written reads back

pub lines-written : (c : Catalogue) (ns rest : List ℕ) → Writable c ns → Ends c ns rest
    → catalogue_lines (text_with c ns ++ rest) ≡ record { verdict = accepted; catalogue = c; next = length (text_with c ns) }
unfolding catalogue_lines
lines-written c ns rest fit ends =
    let first = first_text c.code c.servers c.messages c.symbol in
    let season = season_text c.opening c.closing in
    let sum = sum_text c.sum in
    let lengths = length_text ns in
    let behind = lengths ++ rest in
    let text = text_with c ns ++ rest in
    let stops = ends-head c ns rest ends in
    let both = parts-end (unsummed c.sum) (begins sum_name behind) (dates_go_on c.opening c.closing behind) stops.1 in
    let whole : text ≡ first ++ (season ++ (sum ++ behind)) =
    ap (λ (l : List ℕ). (l ++ lengths) ++ rest) (head-parts c) ∙ simp append_assoc in
    let begun : first_lines text ≡ Some (first_of c.code c.servers c.messages c.symbol (length first)) =
    ap first_lines whole
    ∙ first-written c.code c.servers c.messages c.symbol (season ++ (sum ++ behind)) fit.servers fit.messages fit.symbol in
    let at-season : drop (length first) text ≡ season ++ (sum ++ behind) =
    ap (drop (length first)) whole ∙ drop-append_seam first (season ++ (sum ++ behind)) in
    let at_sum : drop (length first + length season) text ≡ sum ++ behind = drop-after text season (sum ++ behind) (length first) at-season in
    let at-lengths : drop (length (head_text c)) text ≡ behind =
    ap (drop (length (head_text c))) (append_assoc (head_text c) lengths rest) ∙ drop-append_seam (head_text c) behind in
    simp (
      begun,
      season-written c.opening c.closing text (sum ++ behind) (length first) fit.dates at-season
          (dates-end c.opening c.closing c.sum behind both.1),
      sum-written c.sum text behind (length first + length season) at_sum both.0,
      lengths-written c.messages ns text rest (length (head_text c)) fit.lengths at-lengths stops.0,
      sym fit.kept-are,
      parts-length c,
      sym (length-append (head_text c) lengths),
    )

-- ---- what is read is a catalogue's text

-- lines that were read: the text begins with the text of their catalogue and these lengths, which ends at `next`
pub record LinesRead (text : List ℕ) (found : Lines) (ns : List ℕ) : Type 0 where
  pub accepted : found.verdict ≡ Ok tt
  pub writable : Writable found.catalogue ns
  pub next-is : found.next ≡ length (text_with found.catalogue ns)
  pub here : text ≡ text_with found.catalogue ns ++ drop found.next text
  pub ends : Ends found.catalogue ns (drop found.next text)

all_read : (text : List ℕ) (code : Code) (N K S e : ℕ) (opening closing : Day) (f : ℕ) (sum : Operation) (g : ℕ) (found : LengthLines) → FirstRead text code N K S e
    → SeasonRead text e opening closing f → SumRead text f sum g → (r : LengthsRead K text g found)
    → LinesRead text (record { verdict = accepted; catalogue = catalogue_of code N K S opening closing sum found.lengths; next = found.next }) r.ns
all_read text code N K S e opening closing f sum g found first dates last lengths =
    let c = catalogue_of code N K S opening closing sum found.lengths in
    let p = first_text code N K S in
    let q = season_text opening closing in
    let r = sum_text sum in
    let s = length_text lengths.ns in
    let behind = drop found.next text in
    let end : found.next ≡ g + length s = ap (λ (x : LengthLines). x.next) lengths.is in
    let rest : drop e text ≡ q ++ (r ++ (s ++ behind)) =
    dates.here ∙ ap (λ (x : List ℕ). q ++ x) (last.here ∙ ap (λ (x : List ℕ). r ++ x) lengths.here) in
    let grouped : p ++ (q ++ (r ++ (s ++ behind))) ≡ ((p ++ (q ++ r)) ++ s) ++ behind = simp append_assoc in
    let sum-ends : sum_goes_on sum (s ++ behind) ≡ false = ap (sum_goes_on sum) (sym lengths.here) ∙ last.ends in
    let dates-stop : dates_go_on opening closing (r ++ (s ++ behind)) ≡ false =
    ap (dates_go_on opening closing) (sym (last.here ∙ ap (λ (x : List ℕ). r ++ x) lengths.here)) ∙ dates.ends in
    record {
      accepted = refl;
      writable = record {
        servers = first.servers;
        messages = first.messages;
        symbol = first.symbol;
        dates = dates.in-form;
        lengths = lengths.in-form;
        kept-are = ap (λ (x : LengthLines). x.lengths) lengths.is;
      };
      next-is = omega (arith, end, first.next-is, dates.next-is, last.next-is, parts-length c, length-append (head_text c) s);
      here =
          first.here ∙ ap (λ (x : List ℕ). p ++ x) rest ∙ grouped
          ∙ ap (λ (x : List ℕ). (x ++ s) ++ behind) (sym (head-parts c));
      ends = head-ends c lengths.ns behind lengths.ends (both_end c (s ++ behind) sum-ends dates-stop);
    }

-- what is refused 1, or begins with a catalogue's text, which ends there
abbrev Judged : List ℕ → Lines → Type 0
Judged text found = (found ≡ refused_lines (refusal_of 1)) ⊎ ((ns : List ℕ) × LinesRead text found ns)

-- each part ends the reading or goes on
after_first_lem : (text : List ℕ) (first : Option First) (continue : Code → ℕ → ℕ → ℕ → ℕ → Lines)
    → ((code : Code) (N K S next : ℕ) → first ≡ Some (first_of code N K S next) → Judged text (continue code N K S next))
    → Judged text (after_first first continue)
after_first_lem text (Some first) continue read = read first.code first.servers first.messages first.symbol first.next refl
after_first_lem text None continue read = inl refl

after-season : (text : List ℕ) (season : Option Season) (continue : Day → Day → ℕ → Lines)
    → ((opening closing : Day) (next : ℕ) → season ≡ Some (season_of opening closing next) → Judged text (continue opening closing next))
    → Judged text (after_season season continue)
after-season text (Some season) continue read = read season.opening season.closing season.next refl
after-season text None continue read = inl refl

after-sum : (text : List ℕ) (line : Option (Line Operation)) (continue : Operation → ℕ → Lines)
    → ((sum : Operation) (next : ℕ) → line ≡ Some (line_of sum next) → Judged text (continue sum next)) → Judged text (after_sum line continue)
after-sum text (Some line) continue read = read line.value line.next refl
after-sum text None continue read = inl refl

after-lengths : (text : List ℕ) (lines : Option LengthLines) (continue : Lengths → ℕ → Lines)
    → ((found : LengthLines) → lines ≡ Some found → Judged text (continue found.lengths found.next)) → Judged text (after_lengths lines continue)
after-lengths text (Some found) continue read = read found refl
after-lengths text None continue read = inl refl

-- a text is refused 1, or it begins with a catalogue's text, which ends there
pub lines-cases : (text : List ℕ) → (catalogue_lines text ≡ refused_lines (refusal_of 1)) ⊎ ((ns : List ℕ) × LinesRead text (catalogue_lines text) ns)
unfolding catalogue_lines
lines-cases text =
    after_first_lem text (first_lines text) _ λ code N K S e first.
    after-season text (season_lines text e) _ λ opening closing f dates.
    after-sum text (sum_line text f) _ λ sum g last.
    let whole : Lengths → ℕ → Lines =
    λ lengths h. record { verdict = accepted; catalogue = catalogue_of code N K S opening closing sum lengths; next = h } in
    after-lengths text (length_lines K text g) whole λ found formed.
    let lengths = lengths_read K text g found formed in
    inr (
      lengths.ns,
      all_read text code N K S e opening closing f sum g found
          (first_read text code N K S e first)
          (season-read text e opening closing f dates)
          (sum-read text f sum g last)
          lengths,
    )
