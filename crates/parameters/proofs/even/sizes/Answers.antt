-- `parameters::even::sizes` meets its contract: the sizes of admitted parameters are small, so no sum and no product wraps.
use Rattle.std.proofs.Common.{arith}
use Rattle.parameters.specs.Measures.{even_rows, even_sizes}
use Rattle.parameters.proofs.Bounds.{even-bounds}
use Rattle.parameters.proofs.SmallSizes.{share-small, rows-small, even-small}
use Rattle.parameters.proofs.even.sizes.Goals as goal

pub power-share-requires : goal.power-share-requires
power-share-requires c = let a = c.args in omega (arith, share-small a.n a.k a.s (even-bounds a.n a.k a.s c.requires))

pub overflow_add-rows : goal.overflow_add-rows
unfolding even_rows
overflow_add-rows c = let a = c.args in
    record { fits = rw c.power-share.ensures (omega (arith, rows-small a.n a.k a.s (even-bounds a.n a.k a.s c.requires))) }

pub overflow_mul-result-3 : goal.overflow_mul-result-3
unfolding even_sizes
overflow_mul-result-3 c = let a = c.args in
    let m = (even-small a.n a.k a.s (even-bounds a.n a.k a.s c.requires)).query in
    record { fits = rw c.power-share.ensures (omega arith) }

pub overflow_mul-result-4 : goal.overflow_mul-result-4
unfolding even_sizes even_rows
overflow_mul-result-4 c = let a = c.args in
    let m = (even-small a.n a.k a.s (even-bounds a.n a.k a.s c.requires)).slot in
    record { fits = rw c.power-share.ensures (omega arith) }
