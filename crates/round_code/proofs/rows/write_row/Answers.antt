-- `round_code::rows::write_row` meets its contract: the row is the short code's query by the entry's digits.
use mathlib.Core.Path.{sym, ap, ◌∙◌}
use mathlib.Core.List.{List}
use Rattle.lists.proofs.Puts.{put_whole}
use Rattle.short_scheme.specs.Short.{short_query}
use Rattle.short_scheme.proofs.Queries.{query-long}
use Rattle.round_code.proofs.ShortKeys.{held, held-long, held_below}
use Rattle.round_code.proofs.rows.write_row.Goals as goal

pub query-requires-clause-key_value : goal.query-requires-clause-key_value
query-requires-clause-key_value c = let a = c.args in
    held_below a.n a.k a.entry c.digits_of-short.result c.digits_of-short.ensures c.requires.round_numbers c.requires.bound

pub returns : goal.returns
returns c = let a = c.args in
    let b = c.requires.round_numbers in
    let array = c.digits_of-short.result in
    let e = c.digits_of-short.ensures in
    let row : List _ → List _ = short_query a.n a.wanted a.server in
    c.query.ensures
    ∙ put_whole (row _) a.out.now
    (query-long a.n a.k a.wanted a.server _ c.requires.wanted_lt_k.0 c.requires.wanted_lt_k.1 (held-long a.n a.k a.entry array e)
    (held_below a.n a.k a.entry array e b c.requires.bound)
    ∙ sym c.requires.out_len)
    ∙ ap row (held a.n a.k a.entry array e)
