-- The lines of a catalogue's text: how those in front of the lengths are put together (`head-parts`), their lengths (`head-length`), and how they come
-- to stand side by side in a buffer (`put_six`). An admitted catalogue can be written with its own lengths (`admitted-writable`), and with no others
-- (`own-numbers`).
use mathlib.Core.Path.{◌≡◌, refl, sym, ap, ◌∙◌}
use mathlib.Core.Bool.{Bool, true, false, ◌&&◌, ◌||◌}
use mathlib.Core.List.{List, ◌++◌, append_assoc}
use Prim.Native.Nat.{ℕ, ◌+◌, ◌≤◌}
use native.Mathlib.Omega.{arith}
use lib.ListN.{length, length-append}
use Rattle.lists.specs.Parts.{put}
use Rattle.lists.proofs.Both.{both_true, true-both}
use Rattle.lists.proofs.Puts.{put_next, put_three}
use Rattle.text_lines.specs.Lines.{number_text}
use Rattle.symbol.specs.declared.Operation.{Operation}
use Rattle.symbol.specs.declared.Operation.TheVariants.{ExclusiveOr, Addition}
use Rattle.calendar.specs.declared.Day.{Day}
use Rattle.calendar.specs.Calendar.{real_day, before, undated}
use Rattle.season_text.specs.SeasonLines.{in_form, season_text}
use Rattle.lengths.specs.Lengths.{numbers_of}
use Rattle.length_text.proofs.Fitting.{numbers-in-form, kept-numbers, numbers-kept}
use Rattle.catalogue.specs.declared.Code.{Code}
use Rattle.catalogue.specs.declared.Code.TheVariants.{Short, Even, Turn, Round}
use Rattle.catalogue.specs.declared.Catalogue.{Catalogue}
use Rattle.catalogue.specs.Catalogue.{dates_fit, sizes_of, Admitted}
use Rattle.catalogue.proofs.Admitted.{admitted-numbers, admitted-dates, admitted-lengths, admitted-small}
use Rattle.catalogue_text.specs.Text.{code_text, servers_name, messages_name, symbol_name, sum_text, head_text, own_numbers, Writable}

pub code-most : (code : Code) → length (code_text code) ≤ 11
code-most Short = omega arith
code-most Even = omega arith
code-most Turn = omega arith
code-most Round = omega arith

pub sum-most : (sum : Operation) → length (sum_text sum) ≤ 8
sum-most ExclusiveOr = omega arith
sum-most Addition = omega arith

-- the first four lines
abbrev pub first_text : Code → ℕ → ℕ → ℕ → List ℕ
first_text code N K S = code_text code ++ (number_text servers_name N ++ (number_text messages_name K ++ number_text symbol_name S))

pub first-length : (code : Code) (N K S : ℕ)
    → length (code_text code) + length (number_text servers_name N) + length (number_text messages_name K) + length (number_text symbol_name S)
    ≡ length (first_text code N K S)
first-length code N K S =
    let b = number_text servers_name N in
    let d = number_text messages_name K in
    let e = number_text symbol_name S in
    let l = length-append (code_text code) (b ++ (d ++ e)) in
    let m = length-append b (d ++ e) in
    let n = length-append d e in
    omega arith

-- the first lines, the dates and the sum
pub head-parts : (c : Catalogue)
    → head_text c ≡ first_text c.code c.servers c.messages c.symbol ++ (season_text c.opening c.closing ++ sum_text c.sum)
unfolding head_text
head-parts c = simp append_assoc

pub parts-length : (c : Catalogue)
    → length (first_text c.code c.servers c.messages c.symbol) + length (season_text c.opening c.closing) + length (sum_text c.sum)
    ≡ length (head_text c)
parts-length c =
    let first = first_text c.code c.servers c.messages c.symbol in
    let season = season_text c.opening c.closing in
    let l = ap length (head-parts c) in
    let m = length-append first (season ++ sum_text c.sum) in
    let n = length-append season (sum_text c.sum) in
    omega arith

pub head-length : (c : Catalogue)
    → length (head_text c)
    ≡ length (code_text c.code) + length (number_text servers_name c.servers)
    + length (number_text messages_name c.messages) + length (number_text symbol_name c.symbol)
    + length (season_text c.opening c.closing) + length (sum_text c.sum)
head-length c = let l = parts-length c in let m = first-length c.code c.servers c.messages c.symbol in omega arith

-- ---- an admitted catalogue can be written

-- a test left out
without-last : (t u v w : Bool) → t || u && (v && w) ≡ true → t || u && v ≡ true
without-last true u v w e = refl
without-last false u v w e = let p = both_true u (v && w) e in true-both p.0 (both_true v w p.1).0

dates-fit : (opening closing : Day) → dates_fit opening closing ≡ true → in_form opening closing ≡ true
unfolding dates_fit in_form
dates-fit opening closing e = without-last (undated opening closing) (real_day opening) (real_day closing) (before opening closing) e

pub admitted-writable : (c : Catalogue) → Admitted c → Writable c (own_numbers c)
admitted-writable c a =
    let b = admitted-numbers c a in
    let s = admitted-small c a in
    let whole = (sizes_of c).message in
    let fit = admitted-lengths c a in
    let some : 1 ≤ c.messages = omega arith in
    record {
      servers = omega arith;
      messages = omega arith;
      symbol = omega arith;
      dates = dates-fit c.opening c.closing (admitted-dates c a);
      lengths = numbers-in-form c.messages whole c.lengths fit some b.messages-high s.message-some (omega (arith, s.message));
      kept-are = sym (kept-numbers c.messages whole c.lengths fit some b.messages-high);
    }

-- the numbers beside an admitted value are its own
pub own-numbers : (c : Catalogue) (ns : List ℕ) → Admitted c → Writable c ns → ns ≡ own_numbers c
own-numbers c ns a fit =
    sym (numbers-kept c.messages ns fit.lengths (admitted-numbers c a).messages-high)
    ∙ ap (numbers_of c.messages) (sym fit.kept-are)

-- ---- six parts written one after another

pub put_six : (a b d e f g out out₁ out₂ out₃ out₄ out₅ out₆ : List ℕ) (p₁ p₂ p₃ p₄ p₅ : ℕ)
    → p₁ ≡ length a → p₂ ≡ p₁ + length b → p₃ ≡ p₂ + length d → p₄ ≡ p₃ + length e → p₅ ≡ p₄ + length f
    → out₁ ≡ put 0 a out → out₂ ≡ put p₁ b out₁ → out₃ ≡ put p₂ d out₂
    → out₄ ≡ put p₃ e out₃ → out₅ ≡ put p₄ f out₄ → out₆ ≡ put p₅ g out₅
    → out₆ ≡ put 0 (a ++ (b ++ (d ++ (e ++ (f ++ g))))) out
put_six a b d e f g out out₁ out₂ out₃ out₄ out₅ out₆ p₁ p₂ p₃ p₄ p₅ i₁ i₂ i₃ i₄ i₅ o₁ o₂ o₃ o₄ o₅ o₆ =
    let three = a ++ (b ++ d) in
    let five = three ++ (e ++ f) in
    let l = length-append a (b ++ d) in
    let m = length-append b d in
    let n = length-append three (e ++ f) in
    let k = length-append e f in
    let done : out₃ ≡ put 0 three out = put_three 0 a b d out out₁ out₂ out₃ p₁ p₂ (omega arith) (omega arith) i₂ o₁ o₂ o₃ in
    let more : out₅ ≡ put 0 five out = put_three 0 three e f out out₃ out₄ out₅ p₃ p₄ (omega arith) (omega arith) i₄ done o₄ o₅ in
    let all : five ++ g ≡ a ++ (b ++ (d ++ (e ++ (f ++ g)))) = simp append_assoc in
    o₆ ∙ put_next 0 p₅ five g out out₅ (omega arith) (omega arith) more ∙ ap (λ (x : List ℕ). put 0 x out) all
