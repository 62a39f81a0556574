-- `short_code::recover` meets its contract: the key's digits sum up to the number of the server that was asked for none of the wanted
-- message.
use mathlib.Core.Path.{sym, ap, ◌∙◌}
use mathlib.Core.List.{List, flat_map}
use Prim.Native.Nat.{ℕ, ◌-◌, ◌%◌, ◌<◌}
use native.Mathlib.Nat.{mod-lt}
use native.Mathlib.Omega.{arith}
use Rattle.lists.specs.Parts.{lay}
use Rattle.lists.specs.Below.{Below}
use Rattle.lists.specs.Ranges.{range}
use Rattle.parameters.specs.Measures.{short_sizes}
use Rattle.parameters.proofs.Bounds.{short-bounds}
use Rattle.symbol.specs.Operations.{sum_of}
use Rattle.symbol.proofs.Operations.{group_of}
use Rattle.short_scheme.specs.Short.{all_zero, digit_sum}
use Rattle.short_rows.specs.Steps.{slot_starts, from_places}
use Rattle.short_code.proofs.Slots.{fits-slotted, recover-slots}
use Rattle.short_code.proofs.recover.Goals as goal

pub recover_slots-requires-clause-t_lt_n : goal.recover_slots-requires-clause-t_lt_n
recover_slots-requires-clause-t_lt_n c = let a = c.args in
    let b = short-bounds a.n a.k a.s c.requires.s_value in
    let m : digit_sum a.key.now % a.n < a.n = mod-lt (digit_sum a.key.now) (omega arith) in
    omega (arith, c.digit_sum-t.ensures.value)

pub recover_slots-requires-clause-slotted : goal.recover_slots-requires-clause-slotted
unfolding short_sizes
recover_slots-requires-clause-slotted c = let a = c.args in
    fits-slotted a.n a.k a.s a.answers.now c.requires.s_value c.requires.s_in_bounds

pub returns : goal.returns
unfolding short_sizes
returns c = let a = c.args in
    let bounds = short-bounds a.n a.k a.s c.requires.s_value in
    let slotted = fits-slotted a.n a.k a.s a.answers.now c.requires.s_value c.requires.s_in_bounds in
    let bytes : Below 256 a.answers.now = λ i h. omega (arith, c.type_inv.answers i) in
    let f : ℕ → ℕ → List ℕ = λ t. from_places (sum_of a.op) a.n a.s t (all_zero a.key.now) (slot_starts a.s) a.answers.now in
    c.recover_slots.ensures
    ∙ ap (λ (t : ℕ). lay 0 (flat_map (f t) (range 1 (a.n - 1))) a.message.now) c.digit_sum-t.ensures.value
    ∙ ap (λ (l : List ℕ). lay 0 l a.message.now)
    (sym (recover-slots (sum_of a.op) a.n a.k a.s a.wanted (group_of a.op a.s) a.key.now a.answers.now
    (omega (arith, bounds.servers-low)) slotted bytes))
