-- The four lines that every catalogue's text begins with: what is written reads back, whatever follows it (`first-written`), and what is read is what
-- is written for its values (`first_read`).
use mathlib.Core.Path.{◌≡◌, refl, ap, ◌∙◌}
use mathlib.Core.Bool.{Bool, true, false, cond}
use mathlib.Core.List.{List, ◌++◌, append_assoc}
use Prim.Native.Nat.{ℕ, ◌+◌, ◌<◌}
use native.Mathlib.Omega.{arith}
use lib.ListN.{length, drop}
use lib.Seq.{drop-append_seam}
use Rattle.lists.proofs.Cuts.{drop-after}
use Rattle.std.specs.Prelude.{Some, None}
use Rattle.std.proofs.lemmas.Option.{none-some, same_Some}
use Rattle.text_lines.specs.Lines.{number_text, begins, line_of, number_line}
use Rattle.text_lines.proofs.Taken.{same-line, went_on}
use Rattle.text_lines.proofs.Begins.{begins-split}
use Rattle.text_lines.proofs.RoundTrip.{LineRead, line-written, line_read}
use Rattle.catalogue.specs.declared.Code.{Code}
use Rattle.catalogue.specs.declared.Code.TheVariants.{Short, Even, Turn, Round}
use Rattle.catalogue_text.specs.declared.First.{First}
use Rattle.catalogue_text.specs.Text.{code_text, servers_name, messages_name, symbol_name}
use Rattle.catalogue_text.specs.Parsing.{code_line, first_of, first_lines}
use Rattle.catalogue_text.proofs.TextParts.{first_text, first-length}

-- ---- the first line

code-written : (code : Code) (rest : List ℕ) → code_line (code_text code ++ rest) ≡ Some (line_of code (length (code_text code)))
unfolding code_line begins
code-written Short rest = refl
code-written Even rest = refl
code-written Turn rest = refl
code-written Round rest = refl

-- a first line that was read
record CodeRead (text : List ℕ) (code : Code) (next : ℕ) : Type 0 where
  next-is : next ≡ length (code_text code)
  here : text ≡ code_text code ++ drop next text

code_read : (text : List ℕ) (code : Code) (next : ℕ) → code_line text ≡ Some (line_of code next) → CodeRead text code next
unfolding code_line
code_read text code next e =
    go (begins (code_text Short) text) (begins (code_text Even) text) (begins (code_text Turn) text) (begins (code_text Round) text) refl refl refl refl e
  where
    read-as : (named : Code) → begins (code_text named) text ≡ true → Some (line_of named (length (code_text named))) ≡ Some (line_of code next)
        → CodeRead text code next
    read-as named begun f =
        let s = same-line named code (length (code_text named)) next f in
        let this : CodeRead text named (length (code_text named)) = record { next-is = refl; here = begins-split (code_text named) text begun } in
        rw (s.1, s.0) at this

    go : (s t u v : Bool) → begins (code_text Short) text ≡ s → begins (code_text Even) text ≡ t → begins (code_text Turn) text ≡ u
        → begins (code_text Round) text ≡ v
        → cond s (Some (line_of Short 11)) (cond t (Some (line_of Even 10)) (cond u (Some (line_of Turn 10)) (cond v (Some (line_of Round 11)) None)))
        ≡ Some (line_of code next)
        → CodeRead text code next
    go true t u v short even turn round e = read-as Short short e
    go false true u v short even turn round e = read-as Even even e
    go false false true v short even turn round e = read-as Turn turn e
    go false false false true short even turn round e = read-as Round round e
    go false false false false short even turn round e = absurd (none-some (line_of code next) e)

-- ---- the four lines

pub first-written : (code : Code) (N K S : ℕ) (rest : List ℕ) → N < 100000 → K < 100000 → S < 100000
    → first_lines (first_text code N K S ++ rest) ≡ Some (first_of code N K S (length (first_text code N K S)))
unfolding first_lines
first-written code N K S rest servers messages symbol =
    let a = code_text code in
    let b = number_text servers_name N in
    let d = number_text messages_name K in
    let e = number_text symbol_name S in
    let text = first_text code N K S ++ rest in
    let after-a = b ++ (d ++ (e ++ rest)) in
    let whole : text ≡ a ++ after-a = simp append_assoc in
    let first : code_line text ≡ Some (line_of code (length a)) = ap code_line whole ∙ code-written code after-a in
    let at_b : drop (length a) text ≡ after-a = ap (drop (length a)) whole ∙ drop-append_seam a after-a in
    let at-d : drop (length a + length b) text ≡ d ++ (e ++ rest) = drop-after text b (d ++ (e ++ rest)) (length a) at_b in
    let at-e : drop (length a + length b + length d) text ≡ e ++ rest = drop-after text d (e ++ rest) (length a + length b) at-d in
    simp (
      first,
      line-written 5 servers_name text (d ++ (e ++ rest)) (length a) N (omega arith) servers at_b,
      line-written 5 messages_name text (e ++ rest) (length a + length b) K (omega arith) messages at-d,
      line-written 5 symbol_name text rest (length a + length b + length d) S (omega arith) symbol at-e,
      first-length code N K S,
    )

-- the four lines that were read: the text begins with theirs, which ends at `next`
pub record FirstRead (text : List ℕ) (code : Code) (N K S next : ℕ) : Type 0 where
  pub servers : N < 100000
  pub messages : K < 100000
  pub symbol : S < 100000
  pub next-is : next ≡ length (first_text code N K S)
  pub here : text ≡ first_text code N K S ++ drop next text

all_read : (text : List ℕ) (code : Code) (a N b K d S e : ℕ) → CodeRead text code a
    → LineRead 5 servers_name text a N b → LineRead 5 messages_name text b K d → LineRead 5 symbol_name text d S e
    → FirstRead text code N K S e
all_read text code a N b K d S e first servers messages symbol =
    let p = code_text code in
    let q = number_text servers_name N in
    let r = number_text messages_name K in
    let s = number_text symbol_name S in
    let l = first-length code N K S in
    let i = first.next-is in
    let j = servers.next-is in
    let k = messages.next-is in
    let o = symbol.next-is in
    let rest : drop a text ≡ q ++ (r ++ (s ++ drop e text)) =
    servers.here ∙ ap (λ (x : List ℕ). q ++ x) (messages.here ∙ ap (λ (x : List ℕ). r ++ x) symbol.here) in
    let grouped : p ++ (q ++ (r ++ (s ++ drop e text))) ≡ (p ++ (q ++ (r ++ s))) ++ drop e text = simp append_assoc in
    record {
      servers = servers.below;
      messages = messages.below;
      symbol = symbol.below;
      next-is = omega arith;
      here = first.here ∙ ap (λ (x : List ℕ). p ++ x) rest ∙ grouped;
    }

-- one reading of the four lines, its values and its end
same-first : (s t : First) → Some s ≡ Some t
    → (s.code ≡ t.code) × (s.servers ≡ t.servers) × (s.messages ≡ t.messages) × (s.symbol ≡ t.symbol) × (s.next ≡ t.next)
same-first s t e =
    let p = same_Some s t e in (
      ap (λ (x : First). x.code) p,
      ap (λ (x : First). x.servers) p,
      ap (λ (x : First). x.messages) p,
      ap (λ (x : First). x.symbol) p,
      ap (λ (x : First). x.next) p,
    )

pub first_read : (text : List ℕ) (code : Code) (N K S next : ℕ) → first_lines text ≡ Some (first_of code N K S next) → FirstRead text code N K S next
unfolding first_lines
first_read text code N K S next e =
    let all = first_of code N K S next in
    went_on (code_line text) _ all e λ named a first after-a.
    went_on (number_line 5 servers_name text a) _ all after-a λ n b servers after-b.
    went_on (number_line 5 messages_name text b) _ all after-b λ k d messages after-d.
    went_on (number_line 5 symbol_name text d) _ all after-d λ s f symbol done.
    let same = same-first (first_of named n k s f) all done in
    rw (same.0, same.1, same.2, same.3, same.4) at
    (all_read text named a n b k d s f
    (code_read text named a first)
    (line_read 5 servers_name text a n b servers)
    (line_read 5 messages_name text b k d messages)
    (line_read 5 symbol_name text d s f symbol))
