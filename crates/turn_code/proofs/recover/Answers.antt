-- `turn_code::recover` meets its contract: the server that was asked for none of the wanted message plays the one whose number is the sum of the key's
-- other digits.
use mathlib.Core.Path.{sym, ap, ◌∙◌}
use mathlib.Core.List.{List, flat_map}
use Prim.Native.Nat.{ℕ, ◌+◌, ◌-◌, ◌%◌, ◌<◌}
use native.Mathlib.Nat.{mod-lt}
use native.Mathlib.Omega.{arith}
use lib.ListN.{length}
use Rattle.lists.specs.Parts.{lay}
use Rattle.lists.specs.Below.{Below}
use Rattle.lists.specs.Ranges.{range}
use Rattle.parameters.specs.Measures.{short_sizes, turn_sizes}
use Rattle.parameters.proofs.Bounds.{ShortBounds, short-bounds}
use Rattle.symbol.specs.Operations.{sum_of}
use Rattle.symbol.proofs.Operations.{group_of}
use Rattle.short_scheme.specs.Short.{all_zero, digit_sum}
use Rattle.short_rows.specs.Steps.{Slotted, slot_starts, from_places}
use Rattle.short_code.proofs.Slots.{fits-slotted}
use Rattle.turn_code.specs.Turn.{turn_of, other_digits}
use Rattle.turn_code.proofs.Keys.{others-length, others-good, turn_below}
use Rattle.turn_code.proofs.Slots.{recover-turned}
use Rattle.turn_code.proofs.recover.Goals as goal

pub overflow_sub-last : goal.overflow_sub-last
unfolding turn_sizes
overflow_sub-last c = let bounds : ShortBounds c.args.n c.args.k c.args.s =
    short-bounds c.args.n c.args.k c.args.s c.requires.s_value in
    let some : 0 < length c.args.key.now =
    omega (arith, c.requires.valid.long, (bounds).messages-low) in
    some

pub bounds-key-last : goal.bounds-key-last
unfolding turn_sizes
bounds-key-last c = let bounds : ShortBounds c.args.n c.args.k c.args.s =
    short-bounds c.args.n c.args.k c.args.s c.requires.s_value in
    let some : 0 < length c.args.key.now =
    omega (arith, c.requires.valid.long, (bounds).messages-low) in
    let h = some in omega arith

pub slice_bounds-digit_sum-end : goal.slice_bounds-digit_sum-end
slice_bounds-digit_sum-end c = sym (others-length c.args.key.now)

pub digit_sum-t-requires : goal.digit_sum-t-requires
digit_sum-t-requires c = others-good c.args.n c.args.key.now c.requires.valid.good

pub subtract_modulo-player-requires : goal.subtract_modulo-player-requires
unfolding turn_sizes
subtract_modulo-player-requires c = let bounds : ShortBounds c.args.n c.args.k c.args.s =
    short-bounds c.args.n c.args.k c.args.s c.requires.s_value in
    let some : 0 < length c.args.key.now =
    omega (arith, c.requires.valid.long, (bounds).messages-low) in
    let low : turn_of c.args.key.now < c.args.n =
    turn_below c.args.n c.args.key.now c.requires.valid.good (some) in
    let a = c.args in
    let m : digit_sum (other_digits a.key.now) % a.n < a.n = mod-lt (digit_sum (other_digits a.key.now)) (omega (arith, (bounds).servers-low)) in
    (omega (arith, c.digit_sum-t.ensures.value), low)

pub slice_bounds-recover_slots-end : goal.slice_bounds-recover_slots-end
slice_bounds-recover_slots-end c = sym (others-length c.args.key.now)

pub recover_slots-requires : goal.recover_slots-requires
unfolding short_sizes turn_sizes
recover_slots-requires c = let bounds : ShortBounds c.args.n c.args.k c.args.s =
    short-bounds c.args.n c.args.k c.args.s c.requires.s_value in
    let slotted : Slotted c.args.n c.args.s c.args.answers.now =
    fits-slotted c.args.n c.args.k c.args.s c.args.answers.now c.requires.s_value c.requires.s_in_bounds in
    let a = c.args in
    let m = mod-lt (c.digit_sum-t.result + (a.n - turn_of a.key.now)) {m = a.n} (omega (arith, (bounds).servers-low)) in
    record {
      t_lt_n = omega (arith, c.subtract_modulo-player.ensures);
      slotted = slotted;
    }

pub returns : goal.returns
unfolding short_sizes turn_sizes
returns c = let bounds : ShortBounds c.args.n c.args.k c.args.s =
    short-bounds c.args.n c.args.k c.args.s c.requires.s_value in
    let some : 0 < length c.args.key.now =
    omega (arith, c.requires.valid.long, (bounds).messages-low) in
    let low : turn_of c.args.key.now < c.args.n =
    turn_below c.args.n c.args.key.now c.requires.valid.good (some) in
    let slotted : Slotted c.args.n c.args.s c.args.answers.now =
    fits-slotted c.args.n c.args.k c.args.s c.args.answers.now c.requires.s_value c.requires.s_in_bounds in
    let bytes : Below 256 c.args.answers.now =
    λ i h. omega (arith, c.type_inv.answers i) in
    let a = c.args in
    let key = a.key.now in
    let f : ℕ → ℕ → List ℕ = λ t. from_places (sum_of a.op) a.n a.s t (all_zero (other_digits key)) (slot_starts a.s) a.answers.now in
    let whole : ℕ → List ℕ = λ t. lay 0 (flat_map (f t) (range 1 (a.n - 1))) a.message.now in
    c.recover_slots.ensures
    ∙ ap whole (c.subtract_modulo-player.ensures ∙ ap (λ (T : ℕ). (T + (a.n - turn_of key)) % a.n) c.digit_sum-t.ensures.value)
    ∙ ap (λ (l : List ℕ). lay 0 l a.message.now)
    (sym (recover-turned (sum_of a.op) a.n a.s key (omega (arith, (bounds).servers-low)) a.k a.wanted (group_of a.op a.s)
    (low) a.answers.now (slotted) (bytes)))
