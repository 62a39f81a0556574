-- `round_code::answer_length` meets its contract: all rows are as many as there are blocks.
use native.Mathlib.Omega.{arith}
use Rattle.parameters.proofs.Bounds.{round-bounds}
use Rattle.round_code.specs.Steps.{RoundNumbers}
use Rattle.round_code.proofs.Fits.{fits-numbers, blocks-fit}
use Rattle.round_code.proofs.answer_length.Goals as goal

pub overflow_sub-k : goal.overflow_sub-k
overflow_sub-k c = let numbers : RoundNumbers c.args.n c.args.k =
    fits-numbers c.args.n c.args.k c.args.s c.requires in
    omega (arith, numbers.messages-low)

pub power-v-requires : goal.power-v-requires
power-v-requires c = let numbers : RoundNumbers c.args.n c.args.k =
    fits-numbers c.args.n c.args.k c.args.s c.requires in
    blocks-fit c.args.n c.args.k numbers

pub length_before-requires : goal.length_before-requires
length_before-requires c = let numbers : RoundNumbers c.args.n c.args.k =
    fits-numbers c.args.n c.args.k c.args.s c.requires in
    let b = numbers in
    let low = (round-bounds c.args.n c.args.k c.args.s c.requires).symbol_high in
    (b.messages-high, low, omega (arith, b.blocks-high, c.power-v.ensures))
