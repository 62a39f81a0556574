-- `Answered::from_set` meets its contract: the bit of the wanted message in the set decides.
use mathlib.Core.Path.{ap, ◌∙◌}
use Prim.Native.Nat.{◌/◌, ◌%◌}
use borrow.Author.Tests.{eq-eqb, ne_eqb}
use Rattle.symbol.specs.Operations.{sum_of}
use Rattle.lists.specs.Assembled.{assemble_by, lay_all}
use Rattle.even_recover.specs.declared.Group.{Group}
use Rattle.even_recover.specs.Rows.{group_parts, set_parts}
use Rattle.even_recover.proofs.Answered.from_set.Goals as goal

pub returns-then-set-self-eq1 : goal.returns-then-set-self-eq1
unfolding set_parts
returns-then-set-self-eq1 c = let at = c.args in
    c.from_group.ensures
    ∙ ap (λ (g : Group). lay_all (group_parts (sum_of at.self.now.op) at.self.now.here g at.self.now.query.now at.self.now.answers.now) at.message.now)
    c.group_of.ensures
    ∙ rw (eq-eqb (at.set / at.self.now.here.bit % 2) 1 c.if-set-self-eq1.true)

pub returns-else-set-self-eq1 : goal.returns-else-set-self-eq1
unfolding set_parts assemble_by
returns-else-set-self-eq1 c = let at = c.args in
    rw (ne_eqb (at.set / at.self.now.here.bit % 2) 1 c.if-set-self-eq1.false)
