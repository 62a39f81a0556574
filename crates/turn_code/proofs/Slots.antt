-- The answers of the turning code in their slots: taking them by part from server T's on is taking them by server from the player of T on
-- (`recovered-turned`), so what recovery takes from the slots are the symbols of the rule: `recover-turned`.
use mathlib.Core.Path.{◌≡◌, ap, ap₂, ◌∙◌}
use mathlib.Core.List.{List, [], flat_map}
use Prim.Native.Nat.{ℕ, ◌+◌, ◌-◌, ◌*◌, ◌%◌, ◌<◌}
use native.Mathlib.Nat.{mod-lt}
use lib.ListN.{get_or}
use Rattle.lists.specs.Parts.{cut}
use Rattle.lists.specs.Ranges.{range}
use Rattle.lists.specs.Below.{Below}
use Rattle.lists.proofs.Mapped.{mapped_at}
use Rattle.lists.proofs.Joined.{joined-equal}
use Rattle.parameters.specs.Measures.{short_sizes, turn_sizes}
use Rattle.symbol.specs.Sum.{Sum}
use Rattle.symbol.specs.Group.{AbelianGroup}
use Rattle.scheme.specs.Scheme.{answers_in}
use Rattle.short_scheme.specs.Short.{all_zero, digit_sum, key_sum, short_query, short_answer_length, or_zeros, recovered, short_recover}
use Rattle.short_rows.specs.Steps.{Slotted, slot_starts, from_places}
use Rattle.short_rows.proofs.Parts.{recover-parts}
use Rattle.turn_code.specs.Turn.{turn_of, other_digits, part_of, player_of, turn_query, by_part, turn_recover, turn_scheme}
use Rattle.turn_code.proofs.Parts.{player-below, players-around, parts-around}

module _ (sum : Sum) (N S : ℕ) (key : List ℕ) (some : 0 < N) where
  recovered-turned : (answers : List (List ℕ)) (T d : ℕ) → T < N
      → recovered sum N S T (by_part N key answers) d ≡ recovered sum N S (player_of N key T) answers d
  unfolding recovered by_part
  recovered-turned answers T d h =
      let player : ℕ → List ℕ = λ part. get_or answers (player_of N key part) [] in
      ap₂ (λ (x y : List ℕ). sum.minus (or_zeros S x) (or_zeros S y))
      (mapped_at player [] N ((d + T) % N) (mod-lt (d + T) some) ∙ ap (λ (n : ℕ). get_or answers n []) (players-around N key some d T))
      (mapped_at player [] N T h)

  module _ (K wanted : ℕ) (group : AbelianGroup sum S) (low : turn_of key < N) (answers : List ℕ) (slotted : Slotted N S answers)
      (bytes : Below 256 answers) where
    abbrev T : ℕ
    T = key_sum N (other_digits key)

    abbrev parts : List (List ℕ)
    parts = answers_in (turn_scheme sum N K S) N wanted key answers

    lie : (n : ℕ) → n < N → get_or parts n [] ≡ cut (n * S) (short_answer_length S (short_query N wanted (part_of N key n) (other_digits key))) answers
    unfolding answers_in turn_sizes short_sizes turn_query
    lie n h = mapped_at (λ i. cut (i * S) (short_answer_length S (turn_query N wanted i key)) answers) [] N n h

    pub recover-turned : turn_recover sum N S key parts
        ≡ flat_map (from_places sum N S (player_of N key T) (all_zero (other_digits key)) (slot_starts S) answers) (range 1 (N - 1))
    unfolding turn_recover short_recover
    recover-turned =
        joined-equal (recovered sum N S T (by_part N key parts)) (recovered sum N S (player_of N key T) parts) 1 1 (N - 1)
        (λ i h. recovered-turned parts T (i + 1) (mod-lt (digit_sum (other_digits key)) some))
        ∙ recover-parts sum N S group answers slotted bytes wanted (other_digits key) (part_of N key) parts lie (player_of N key T) (player-below N key some T)
        (λ d h. parts-around N key some low d T)
