-- `printing::put_refusal` meets its contract: the line is that of the refusal's number, which has at most two digits.
use mathlib.Core.Path.{ap, ◌∙◌}
use Prim.Native.Nat.{ℕ}
use native.Mathlib.Nat.{zero-add}
use native.Mathlib.Omega.{arith}
use lib.ListN.{length}
use Rattle.lists.specs.Ascii.{ascii}
use Rattle.lists.specs.Parts.{put}
use Rattle.text_lines.specs.Lines.{number_text}
use Rattle.text_lines.proofs.NumberLines.{number-text-most}
use Rattle.printing.specs.Output.{refusal_line}
use Rattle.printing.proofs.Writing.{refusal-most}
use Rattle.printing.proofs.put_refusal.Goals as goal

pub put_line-requires : goal.put_line-requires
put_line-requires c = let number = c.number-number in
    let refusal = c.args.refusal in
    let n = number-text-most (ascii "refused=") 1 c.number-number.result (rw c.number-number.ensures (refusal-most refusal)) in
    omega arith

pub returns : goal.returns
unfolding refusal_line
returns c = let line = c.put_line in
    let number = c.number-number in
    let out = c.args.out.now in record {
      value = c.put_line.ensures.value ∙ zero-add _ ∙ ap (λ (n : ℕ). length (number_text (ascii "refused=") n)) c.number-number.ensures;
      out_after = c.put_line.ensures.out_after ∙ ap (λ (n : ℕ). put 0 (number_text (ascii "refused=") n) out) c.number-number.ensures;
    }
