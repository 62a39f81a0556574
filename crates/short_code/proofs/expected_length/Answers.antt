-- `short_code::expected_length` meets its contract: server 0's query is the row of zeros exactly if the key is, and no other server's is.
use mathlib.Core.Path.{sym, ap, ◌∙◌}
use mathlib.Core.Bool.{Bool, cond}
use Prim.Native.Nat.{ℕ}
use native.Mathlib.Omega.{arith}
use Rattle.short_scheme.specs.Short.{short_query, short_answer_length}
use Rattle.short_scheme.proofs.ZeroRow.{query-zeros, query-some, length_some}
use Rattle.short_code.proofs.expected_length.Goals as goal

pub returns-then-server-eq0 : goal.returns-then-server-eq0
unfolding short_answer_length
returns-then-server-eq0 c = let a = c.args in
    c.answer_length.ensures
    ∙ ap (λ (t : Bool). cond t 0 a.s) (sym (query-zeros a.n a.wanted a.key.now (omega (arith, c.requires))))
    ∙ ap (λ (n : ℕ). short_answer_length a.s (short_query a.n a.wanted n a.key.now)) (sym c.if-server-eq0.true)

pub returns : goal.returns
returns c = let a = c.args in
    sym
    (length_some a.s (short_query a.n a.wanted a.server a.key.now)
    (query-some a.n a.wanted a.key.now a.server c.requires (omega arith)))
