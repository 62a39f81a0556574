-- `printing::put_page` meets its contract: the length, the catalogue's lines, the wanted message's and the key's are read in this order, and each
-- ends the reading with refusal 1 or goes on.
use mathlib.Core.Path.{◌≡◌, sym, ap, ◌∙◌}
use Prim.Native.Nat.{◌+◌, ◌<◌}
use native.Mathlib.Omega.{arith}
use borrow.Author.Tests.{lt-ltb, le-ltb}
use lib.ListN.{length}
use Rattle.refusal.specs.declared.Refusal.TheVariants.{Text}
use Rattle.codes.specs.Codes.{scheme_of}
use Rattle.number_lists.specs.NumberLists.{numbers_at, scan_of, list_of}
use Rattle.printing.specs.Input.{asked, key_line, lines_ask, input_asks}
use Rattle.printing.specs.Output.{refusal_line, answer_to, printed}
use Rattle.printing.proofs.Parts.{written_as}
use Rattle.number_lists.proofs.Scanning.{scan-refused, scanned-some}
use Rattle.printing.proofs.KeyLine.{key-line-read}
use Rattle.printing.proofs.put_page.Goals as goal

pub returns-then-input-gt65536 : goal.returns-then-input-gt65536
unfolding printed input_asks lines_ask
returns-then-input-gt65536 c = let a = c.args in
    let long : 65536 < length a.input.now = omega (arith, c.if-input-gt65536.true) in
    let e : printed scheme_of a.input.now ≡ refusal_line Text = simp (lt-ltb _ _ long) in
    let w = written_as _ _ a.out.now _ _ e (c.put_refusal.ensures.value, c.put_refusal.ensures.out_after) in
    record { value = w.0; out_after = w.1 }

pub returns-in_default : goal.returns-in_default
unfolding printed input_asks lines_ask
returns-in_default c = let a = c.args in
    let e : printed scheme_of a.input.now ≡ refusal_line Text =
    simp (le-ltb _ _ c.if-input-gt65536.false, sym c.catalogue_lines-found.ensures, c.in_default.is) in
    let w = written_as _ _ a.out.now _ _ e (c.put_refusal-in_default.ensures.value, c.put_refusal-in_default.ensures.out_after) in
    record { value = w.0; out_after = w.1 }

pub returns-in_default-number_line : goal.returns-in_default-number_line
unfolding printed input_asks lines_ask
returns-in_default-number_line c = let a = c.args in
    let wanted = sym c.number_line.ensures ∙ c.in_default-number_line.is in
    let e : printed scheme_of a.input.now ≡ refusal_line Text =
    simp (le-ltb _ _ c.if-input-gt65536.false, sym c.catalogue_lines-found.ensures, c.in-Ok.is, wanted) in
    let w = written_as _ _ a.out.now _ _ e (c.put_refusal-in_default-number_line.ensures.value, c.put_refusal-in_default-number_line.ensures.out_after) in
    record { value = w.0; out_after = w.1 }

pub returns-in_default-scan_key : goal.returns-in_default-scan_key
unfolding printed input_asks lines_ask
returns-in_default-scan_key c = let a = c.args in
    let text = a.input.now in
    let wanted = sym c.number_line.ensures ∙ c.in-Some.is in
    let none = sym c.scan_key.ensures ∙ c.in_default-scan_key.is in
    let key = scan-refused (key_line text c.in-Some.wanted.next) none in
    let e : printed scheme_of text ≡ refusal_line Text =
    simp (le-ltb _ _ c.if-input-gt65536.false, sym c.catalogue_lines-found.ensures, c.in-Ok.is, wanted, key) in
    let w = written_as _ _ a.out.now _ _ e (c.put_refusal-in_default-scan_key.ensures.value, c.put_refusal-in_default-scan_key.ensures.out_after) in
    record { value = w.0; out_after = w.1 }

pub overflow_add-request : goal.overflow_add-request
overflow_add-request c = let w = key-line-read _ _ _ _ (sym c.scan_key.ensures ∙ c.in-Some-scan_key.is) in
    omega arith

pub invariant_of-request : goal.invariant_of-request
invariant_of-request c = let told = sym c.scan_key.ensures ∙ c.in-Some-scan_key.is in
    record { numbers = ap scan_of (sym (key-line-read _ _ _ _ told).1) ∙ told }

pub returns : goal.returns
unfolding printed input_asks lines_ask
returns c = let a = c.args in
    let text = a.input.now in
    let told = sym c.scan_key.ensures ∙ c.in-Some-scan_key.is in
    let numbers = (key-line-read _ _ _ _ told).1 in
    let wanted = sym c.number_line.ensures ∙ c.in-Some.is in
    let key = numbers ∙ scanned-some _ _ _ (ap scan_of (sym numbers) ∙ told) in
    let at = c.in-Some.wanted.next + 4 in
    let ask = asked c.catalogue_lines-found.result.catalogue c.in-Some.wanted.value (list_of (numbers_at text at)) in
    let e : printed scheme_of text ≡ answer_to scheme_of ask =
    simp (le-ltb _ _ (c.if-input-gt65536.false), sym c.catalogue_lines-found.ensures, c.in-Ok.is, wanted, key) in
    let w = written_as _ _ a.out.now _ _ e (c.put_asked.ensures.value, c.put_asked.ensures.out_after) in
    record { value = w.0; out_after = w.1 }
