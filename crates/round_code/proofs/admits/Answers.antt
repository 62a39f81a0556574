-- `round_code::admits` meets its contract: a query of another length is not admitted, and of the right one the rows decide.
use mathlib.Core.Path.{sym, ap, ◌∙◌}
use Prim.Native.Nat.{ℕ, ◌*◌}
use borrow.Author.Tests.{ne_eqb}
use lib.ListN.{length}
use Rattle.round_scheme.proofs.Once.{length-refused}
use Rattle.round_code.proofs.admits.Goals as goal

pub returns-else-query-v : goal.returns-else-query-v
returns-else-query-v c = let a = c.args in
    ne_eqb (length a.query.now) (c.power-v.result * a.k) c.if-query-v.false
    ∙ sym (length-refused a.n a.k a.server a.query.now
    (λ e. c.if-query-v.false (e ∙ ap (λ (v : ℕ). v * a.k) (sym c.power-v.ensures))))
