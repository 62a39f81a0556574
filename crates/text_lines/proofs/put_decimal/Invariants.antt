-- `text_lines::put_decimal` meets its contract: the digits written so far and those of what is left are all of them.
use mathlib.Core.Path.{◌≡◌}
use mathlib.Core.List.{List, ◌++◌}
use Prim.Native.Nat.{ℕ, ◌+◌}
use lib.ListN.{length}
use Rattle.lists.specs.Parts.{put}
use Rattle.text_lines.specs.Decimal.{decimal}
use Rattle.text_lines.proofs.put_decimal.Given as goal

pub record Written (at n : ℕ) (before : List ℕ) (i front : ℕ) (out : List ℕ) : Type 0 where
  pub written : List ℕ
  pub whole : decimal n ≡ decimal front ++ written
  pub place : i ≡ at + length (decimal front)
  pub bytes : out ≡ put i written before

abbrev pub invariant-loop-front : goal.invariant-loop-front
invariant-loop-front l = Written l.at l.n l.initial.out l.i l.front l.out

abbrev pub decreases-loop-front : goal.decreases-loop-front
decreases-loop-front l = l.front
