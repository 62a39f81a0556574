-- `round_code::rows::asked_none` meets its contract: it sums up the entry's digits.
use mathlib.Core.Path.{ap, ◌∙◌}
use Rattle.short_scheme.specs.Short.{key_sum}
use Rattle.round_code.proofs.ShortKeys.{held, held_below}
use Rattle.round_code.proofs.rows.asked_none.Goals as goal

pub digit_sum-requires : goal.digit_sum-requires
digit_sum-requires c = held_below c.args.n c.args.k c.args.entry c.digits_of-short.result c.digits_of-short.ensures c.requires.round_numbers c.requires.bound

pub returns : goal.returns
returns c = let a = c.args in
    c.digit_sum.ensures.value ∙ ap (key_sum a.n) (held a.n a.k a.entry c.digits_of-short.result c.digits_of-short.ensures)
