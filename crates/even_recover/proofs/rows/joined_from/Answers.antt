-- `rows::joined_from` meets its contract: where the wanted message is not alone, the row was joined from one of the other servers, by its turn.
use mathlib.Core.Path.{◌≡◌, ap, ◌∙◌}
use Prim.Native.Nat.{ℕ, ◌+◌, ◌*◌, ◌/◌, ◌%◌}
use native.Mathlib.Omega.{arith}
use borrow.Author.Tests.{eq-eqb, ne_eqb}
use lib.ListN.{get_or}
use Rattle.even_places.specs.Rule.{others}
use Rattle.even_recover.specs.Rows.{joined_from}
use Rattle.even_recover.proofs.Held.{Source, source_row_lem}
use Rattle.even_recover.proofs.rows.joined_from.Goals as goal
use Rattle.even_recover.proofs.rows.joined_from.Goals.{After-other_server}

-- the row that this one was joined from, and its server
source-of : (c : After-other_server) → let a = c.args in Source a.here a.group a.i c.requires.bounded c.requires.grouped c.requires.i_lt_count
source-of c = let a = c.args in
    source_row_lem a.here a.group a.i c.requires.bounded c.requires.grouped c.requires.i_lt_count c.if-group-eq1.false

other-is : (c : After-other_server) → let a = c.args in c.other_server.result ≡ get_or (others a.here.servers a.here.server) (a.i / a.group.each) 0
other-is c = c.other_server.ensures c.args.here.servers c.requires.bounded.known (source-of c).turn

pub returns-then-group-eq1 : goal.returns-then-group-eq1
unfolding joined_from
returns-then-group-eq1 c = rw (eq-eqb c.args.group.messages 1 c.if-group-eq1.true)

pub overflow_mul-result-2 : goal.overflow_mul-result-2
overflow_mul-result-2 c = let here = (goal.at.overflow_mul-result-2 c).After-other_server in
    omega (arith, (source-of here).source.small, ap (λ (m : ℕ). m * c.args.here.rows) (other-is here))

pub overflow_add-result-3 : goal.overflow_add-result-3
overflow_add-result-3 c = let here = (goal.at.overflow_add-result-3 c).After-other_server in
    omega (arith, (source-of here).source.small, ap (λ (m : ℕ). m * c.args.here.rows) (other-is here))

pub returns : goal.returns
unfolding joined_from
returns c = let a = c.args in
    ap (λ (m : ℕ). m * a.here.rows + (a.group.source + a.i % a.group.each)) (other-is (goal.at.returns c).After-other_server)
    ∙ rw (ne_eqb a.group.messages 1 c.if-group-eq1.false)
