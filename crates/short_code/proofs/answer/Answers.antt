-- `short_code::answer` meets its contract: the digits of a query name symbols of the store, n - 1 for each message.
use native.Mathlib.Omega.{arith}
use Rattle.parameters.specs.Measures.{short_sizes}
use Rattle.parameters.proofs.Bounds.{short-bounds}
use Rattle.short_scheme.specs.Short.{short_answer}
use Rattle.short_scheme.proofs.Named.{query-stored}
use Rattle.short_code.proofs.answer.Goals as goal

pub overflow_sub-messages : goal.overflow_sub-messages
overflow_sub-messages c = omega (arith, (short-bounds c.args.n c.args.k c.args.s c.requires.s_value).servers-low)

pub answer-requires-clause-s_nonzero : goal.answer-requires-clause-s_nonzero
answer-requires-clause-s_nonzero c = (short-bounds c.args.n c.args.k c.args.s c.requires.s_value).symbol_low

pub answer-requires-clause-row_stored : goal.answer-requires-clause-row_stored
unfolding short_sizes
answer-requires-clause-row_stored c = let a = c.args in
    query-stored a.n a.k a.s a.store.now a.query.now c.requires.store_len c.requires.digit_row

pub returns : goal.returns
unfolding short_answer
returns c = c.answer.ensures.out_after
