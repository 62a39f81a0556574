-- `even_query::Walk::place_in` meets its contract: it is the definition's sum, and no part of it is larger than the place.
use mathlib.Core.Path.{ap, ◌∙◌}
use Prim.Native.Nat.{ℕ, ◌+◌, ◌*◌}
use native.Mathlib.Omega.{arith}
use lib.ListN.{length, get_or}
use Rattle.even_query.proofs.Steps.{table-length, place_read, Parts, place-parts}
use Rattle.even_query.proofs.Walk.place_in.Goals as goal
use Rattle.even_query.proofs.Walk.place_in.Goals.{After-takers}

-- the parts of the sum as they are added
added : (c : After-takers) → let a = c.args in
    Parts a.self.now.servers (get_or a.self.now.taken.now (a.block * 8 + a.p) 0) a.rows a.turn c.takers.result a.rank a.number
added c = let a = c.args in
    let w = a.self.now in
    rw c.takers.ensures
    (place-parts w.servers w.wanted a.block a.p a.rows a.turn a.rank a.number w.totals.now w.taken.now w.tables
    c.requires.0 c.requires.1 c.requires.2 c.requires.3)

pub bounds-self-block : goal.bounds-self-block
bounds-self-block c = let w = c.args.self.now in
    omega (arith, c.requires.0, c.requires.1, ap length w.tables.filled, table-length w.servers w.wanted w.totals.now)

pub overflow_mul-result-2 : goal.overflow_mul-result-2
overflow_mul-result-2 c = let a = c.args in
    let w = a.self.now in
    let small = place-parts w.servers w.wanted a.block a.p a.rows a.turn a.rank a.number w.totals.now w.taken.now w.tables
    c.requires.0 c.requires.1 c.requires.2 c.requires.3 in
    omega (arith, small.first)

pub overflow_mul-result-3 : goal.overflow_mul-result-3
overflow_mul-result-3 c = omega (arith, (added c).turns)

pub overflow_add-result-2 : goal.overflow_add-result-2
overflow_add-result-2 c = omega (arith, (added c).sets)

pub overflow_mul-result-4 : goal.overflow_mul-result-4
overflow_mul-result-4 c = omega (arith, (added c).scaled)

pub overflow_add-result-3 : goal.overflow_add-result-3
overflow_add-result-3 c = omega (arith, (added c).sum)

pub overflow_add-result-4 : goal.overflow_add-result-4
overflow_add-result-4 c = omega (arith, (added c).whole)

pub returns : goal.returns
returns c = let a = c.args in
    let w = a.self.now in
    ap (λ (t : ℕ). w.servers * get_or w.taken.now (a.block * 8 + a.p) 0 + a.rows * (a.turn * t + a.rank) + a.number) c.takers.ensures
    ∙ place_read w.servers w.wanted a.block a.p a.rows a.turn a.rank a.number w.totals.now w.taken.now w.tables c.requires.0 c.requires.1
