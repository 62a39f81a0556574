-- `permutation::is_permutation` meets its contract: what is left of the bytes decides, with the marks so far.
use Rattle.std.proofs.Common.{false, sym, ◌∙◌, length-set, arith}
use Rattle.std.proofs.lemmas.List.{length-replicate}
use Rattle.lists.proofs.Passes.{passes-high, passes-seen, passes-more, passes-end, permutation-passes}
use Rattle.permutation.proofs.is_permutation.Goals as goal
use Rattle.permutation.proofs.is_permutation.Goals.{then-size-entry-via-then-size-entry, then-size-entry-via-else-size-entry+then-seen-entry}

pub loop-byte-init : goal.loop-byte-init
loop-byte-init c = (length-replicate 256 false, permutation-passes c.args.size 256 c.args.bytes.now c.requires)

pub returns-then-size-entry : goal.returns-then-size-entry
returns-then-size-entry c = let l = c.loop-byte in
    sym (l.invariant.1 ∙ elim c.then-size-entry.branch [
      | then-size-entry-via-then-size-entry w ↦ passes-high c.args.size l.seen c.args.bytes.now l.byte-index (omega arith) w.if-size-entry.true
      | then-size-entry-via-else-size-entry+then-seen-entry w ↦ passes-seen c.args.size l.seen c.args.bytes.now l.byte-index (omega arith) w.if-seen-entry.true
    ])

pub loop-byte-preserved : goal.loop-byte-preserved
loop-byte-preserved c = let l = c.loop-byte in
    (simp length-set l.invariant.0, l.invariant.1 ∙ passes-more c.args.size l.seen c.args.bytes.now l.byte-index (omega arith) (omega arith) (omega arith) c.if-seen-entry.false)

pub returns : goal.returns
returns c = sym (c.loop-byte.invariant.1 ∙ passes-end c.args.size c.loop-byte.seen c.args.bytes.now c.loop-byte.byte-index (omega arith))
