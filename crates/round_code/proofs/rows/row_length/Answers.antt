-- `round_code::rows::row_length` meets its contract: the row is the part that is lent, as far as the query reaches.
use mathlib.Core.Path.{sym, ap, ◌∙◌}
use native.Mathlib.Omega.{arith}
use Rattle.short_scheme.specs.Short.{short_answer_length}
use Rattle.round_scheme.specs.Round.{row_length}
use Rattle.round_code.proofs.RowParts.{row-lent, row-short-lent, row-past}
use Rattle.round_code.proofs.rows.row_length.Goals as goal

pub returns-then-query-from : goal.returns-then-query-from
returns-then-query-from c = let a = c.args in
    sym (row-past a.k a.query.now a.i a.s (omega (arith, c.if-query-from.true)))

pub returns-then-query-from-2 : goal.returns-then-query-from-2
unfolding row_length
returns-then-query-from-2 c = let a = c.args in
    c.answer_length.ensures
    ∙ ap (short_answer_length a.s) (row-short-lent a.k a.query.now a.i (omega (arith, c.if-query-from-2.true)))

pub returns : goal.returns
unfolding row_length
returns c = let a = c.args in
    c.answer_length-2.ensures ∙ ap (short_answer_length a.s) (row-lent a.k a.query.now a.i)
