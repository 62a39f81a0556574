-- `Fetch::server_rows_of` meets its contract: its powers are small.
use native.Mathlib.Omega.{arith}
use Rattle.parameters.specs.Measures.{even_rows}
use Rattle.parameters.proofs.Bounds.{even-bounds}
use Rattle.even_recover.proofs.Sized.{sized}
use Rattle.even_recover.proofs.Fetch.server_rows_of.Goals as goal

pub power-whole-requires : goal.power-whole-requires
power-whole-requires c = let f = c.args.self.now in
    let small = sized (even-bounds f.servers f.messages f.symbol f.fits) f.known in
    omega (arith, small.whole-high)

pub overflow_sub-result : goal.overflow_sub-result
overflow_sub-result c = let f = c.args.self.now in
    let small = sized (even-bounds f.servers f.messages f.symbol f.fits) f.known in
    omega (arith, small.whole-low, c.power-whole.ensures)

pub overflow_sub-result-2 : goal.overflow_sub-result-2
overflow_sub-result-2 c = let f = c.args.self.now in
    let bounds = even-bounds f.servers f.messages f.symbol f.fits in
    omega (arith, bounds.servers-low)

pub nonzero_div-result : goal.nonzero_div-result
nonzero_div-result c = let f = c.args.self.now in
    let bounds = even-bounds f.servers f.messages f.symbol f.fits in
    omega (arith, bounds.servers-low)

pub overflow_add-result : goal.overflow_add-result
overflow_add-result c = let f = c.args.self.now in
    let small = sized (even-bounds f.servers f.messages f.symbol f.fits) f.known in
    rw c.power-whole.ensures (omega (arith, small.whole-high, small.rest-high))

pub power-requires : goal.power-requires
power-requires c = let f = c.args.self.now in
    let small = sized (even-bounds f.servers f.messages f.symbol f.fits) f.known in
    omega (arith, small.bit_high)

pub overflow_cast-result : goal.overflow_cast-result
overflow_cast-result c = let f = c.args.self.now in
    let small = sized (even-bounds f.servers f.messages f.symbol f.fits) f.known in
    omega (arith, small.bit_high, c.power.ensures)

pub returns : goal.returns
unfolding even_rows
returns c = rw (c.power-whole.ensures, c.power.ensures)
