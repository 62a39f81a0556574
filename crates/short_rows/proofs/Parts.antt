-- Answers of servers that play the parts of the short code's: server t, who plays server T, was asked for none of the wanted message, and server
-- (d + t) modulo N for digit d. What recovery takes from the answer buffer are the symbols of the rule, wherever the answers begin in it
-- (`recover-places`), so also where they lie in slots (`recover-parts`).
use mathlib.Core.Path.{◌≡◌, sym, ap, ◌∙◌}
use mathlib.Core.Bool.{Bool, cond}
use mathlib.Core.List.{List, [], flat_map}
use Prim.Native.Nat.{ℕ, suc, ◌+◌, ◌-◌, ◌*◌, ◌%◌, ◌<◌}
use native.Mathlib.Nat.{zero-add, mod-lt, mod-eq_of_lt, mod-mod}
use native.Mathlib.Numerals.{add-one}
use native.Mathlib.Omega.{arith}
use lib.ListN.{get_or}
use Rattle.lists.specs.Parts.{cut}
use Rattle.lists.specs.Ranges.{range}
use Rattle.lists.specs.Below.{Below}
use Rattle.lists.specs.Inserts.{insert_at}
use Rattle.lists.proofs.Filled.{FilledBy}
use Rattle.lists.proofs.Mapped.{mapped_at, mapped-length}
use Rattle.lists.proofs.Joined.{joined-equal}
use Rattle.symbol.specs.Sum.{Sum}
use Rattle.symbol.specs.Group.{AbelianGroup}
use Rattle.short_scheme.specs.Short.{all_zero, digit_sum, key_sum, balancing, short_query, short_answer_length, recovered}
use Rattle.short_scheme.proofs.Digits.{balance-turn, balance-none}
use Rattle.short_scheme.proofs.ZeroRow.{zeros-more, zeros-broken, length_some}
use Rattle.short_rows.specs.Steps.{Placed, Slotted, slot_starts, from_places}
use Rattle.short_rows.proofs.Places.{slots-placed, recovered-placed}

module _ (N S : ℕ) (answers : List ℕ) (slotted : Slotted N S answers) where
  own-slots : FilledBy (λ i. i * S) N (slot_starts S)
  own-slots = record { holds = λ i h. mapped_at (λ j. j * S) 0 16 i (omega (arith, h, slotted.few)) }

  -- the slots lie where their starts say
  pub slotted-placed : Placed N S (slot_starts S) answers
  slotted-placed =
      slots-placed N S (slot_starts S) answers slotted.few slotted.some slotted.small (mapped-length (λ i. i * S) 0 16) own-slots slotted.room

-- Server n plays server `plays n` of the short code, and `parts` are the servers' answers, which begin in the answer buffer where `starts` says; server t
-- plays server T, and so on around
module _ (sum : Sum) (N S : ℕ) (group : AbelianGroup sum S) (starts answers : List ℕ) (placed : Placed N S starts answers) (bytes : Below 256 answers)
    (wanted : ℕ) (key : List ℕ) (plays : ℕ → ℕ) (parts : List (List ℕ))
    (lie : (n : ℕ) → n < N → get_or parts n [] ≡ cut (get_or starts n 0) (short_answer_length S (short_query N wanted (plays n) key)) answers)
    (t : ℕ) (known : t < N) (turned : (d : ℕ) → d < N → plays ((d + t) % N) ≡ (d + key_sum N key) % N) where
  -- the answer of a server that is asked for digit d
  part : (n d : ℕ) → n < N → balancing N (plays n) key ≡ d
      → get_or parts n [] ≡ cut (get_or starts n 0) (short_answer_length S (insert_at wanted d key)) answers
  unfolding short_query
  part n d h e = lie n h ∙ ap (λ (digit : ℕ). cut (get_or starts n 0) (short_answer_length S (insert_at wanted digit key)) answers) e

  plays-none : plays t ≡ key_sum N key
  plays-none =
      ap plays (sym (ap (λ (n : ℕ). n % N) (zero-add t) ∙ mod-eq_of_lt known)) ∙ turned 0 (omega arith)
      ∙ ap (λ (n : ℕ). n % N) (zero-add (key_sum N key)) ∙ mod-mod (digit_sum key) N

  recovered-part : (d : ℕ) → suc d < N → recovered sum N S t parts (suc d) ≡ from_places sum N S t (all_zero key) starts answers (suc d)
  unfolding short_answer_length
  recovered-part d h =
      let i = (suc d + t) % N in
      recovered-placed sum N S t group starts answers placed known bytes parts (all_zero key) (suc d)
      (part i (suc d) (mod-lt (suc d + t) (omega arith)) (ap (λ (n : ℕ). balancing N n key) (turned (suc d) h) ∙ balance-turn N (suc d) key h)
      ∙ ap (λ (n : ℕ). cut (get_or starts i 0) n answers) (length_some S (insert_at wanted (suc d) key) (zeros-broken wanted d key)))
      (part t 0 known (ap (λ (n : ℕ). balancing N n key) plays-none ∙ balance-none N key (omega arith))
      ∙ ap (λ (b : Bool). cut (get_or starts t 0) (cond b 0 S) answers) (zeros-more wanted key))

  pub recover-places : flat_map (recovered sum N S t parts) (range 1 (N - 1)) ≡ flat_map (from_places sum N S t (all_zero key) starts answers) (range 1 (N - 1))
  recover-places =
      joined-equal (recovered sum N S t parts) (from_places sum N S t (all_zero key) starts answers) 1 1 (N - 1)
      (λ i h. rw (add-one i) (recovered-part i (omega arith)))

-- the same of answers in slots
pub recover-parts : (sum : Sum) (N S : ℕ) → AbelianGroup sum S → (answers : List ℕ) → Slotted N S answers → Below 256 answers → (wanted : ℕ) (key : List ℕ)
    (plays : ℕ → ℕ) (parts : List (List ℕ))
    → ((n : ℕ) → n < N → get_or parts n [] ≡ cut (n * S) (short_answer_length S (short_query N wanted (plays n) key)) answers)
    → (t : ℕ) → t < N → ((d : ℕ) → d < N → plays ((d + t) % N) ≡ (d + key_sum N key) % N)
    → flat_map (recovered sum N S t parts) (range 1 (N - 1)) ≡ flat_map (from_places sum N S t (all_zero key) (slot_starts S) answers) (range 1 (N - 1))
recover-parts sum N S group answers slotted bytes wanted key plays parts lie =
    recover-places sum N S group (slot_starts S) answers (slotted-placed N S answers slotted) bytes wanted key plays parts
    (λ n h.
    lie n h
    ∙ ap (λ (at : ℕ). cut at (short_answer_length S (short_query N wanted (plays n) key)) answers) (sym ((own-slots N S answers slotted).holds n h)))
