-- `printing::print` meets its contract: the output is written onto a page of zeros, whose length stays.
use mathlib.Core.Path.{◌≡◌, ap, ◌∙◌}
use mathlib.Core.List.{List}
use Prim.Native.Nat.{ℕ, ◌≤◌}
use native.Mathlib.Omega.{arith}
use lib.ListN.{length, replicate, drop, length-append}
use Rattle.lists.specs.Parts.{put}
use Rattle.lists.proofs.Puts.{put-padded}
use Rattle.codes.specs.Codes.{scheme_of}
use Rattle.printing.specs.declared.Page.{Page}
use Rattle.printing.specs.Output.{printed, page_bytes, page_of}
use Rattle.printing.proofs.print.Goals as goal

page-is : (text bytes : List ℕ) (n : ℕ) → n ≡ length text → bytes ≡ put 0 text (replicate page_bytes 0) → ◌≡◌ {A = Page} (record { bytes = bytes; length = n }) (page_of text)
unfolding page_of
page-is text bytes n e f = rw (e, f ∙ put-padded text page_bytes)

-- what was written without changing the buffer's length fits it
page-fits : (text before after : List ℕ) → after ≡ put 0 text before → length after ≡ length before → length text ≤ length before
page-fits text before after e k =
    let l = ap length e ∙ length-append text (drop (length text) before) in omega arith

pub returns : goal.returns
returns c = let text = printed scheme_of c.args.input.now in
    let same = c.put_page-length.auto.out in
    let fits = page-fits text c.zeros-bytes.result c.put_page-length.new.out c.put_page-length.ensures.out_after same in
    let is = c.put_page-length.ensures.value in
    record {
      value = page-is text c.put_page-length.new.out c.put_page-length.result is (c.put_page-length.ensures.out_after ∙ ap (put 0 text) c.zeros-bytes.ensures);
      length_in_bounds = omega arith;
    }
