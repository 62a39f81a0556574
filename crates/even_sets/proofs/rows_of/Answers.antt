-- `even_sets::rows_of` meets its contract: it is the power that it asks for.
use native.Mathlib.Omega.{arith}
use lib.Count.{ones-le}
use borrow.Author.Rules.{rules}
use Rattle.even_sets.proofs.rows_of.Goals as goal

pub overflow_cast-set : goal.overflow_cast-set
overflow_cast-set c = omega (arith, ones-le 8 c.args.set (search rules))
