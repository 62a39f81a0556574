-- `permutation::is_permutation` meets its contract: what is left of the bytes decides, with the marks so far.
use Rattle.std.proofs.Common.{◌≡◌, length, drop}
use Rattle.lists.specs.Distinct.{is_permutation}
use Rattle.lists.proofs.Passes.{passes}
use Rattle.permutation.proofs.is_permutation.Given as goal

abbrev pub invariant-loop-byte : goal.invariant-loop-byte
invariant-loop-byte l = (length l.seen ≡ 256) × (is_permutation l.size l.bytes ≡ passes l.size l.seen (drop l.byte-index l.bytes))
