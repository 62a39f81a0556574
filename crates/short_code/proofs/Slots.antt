-- The answers of the short code in their slots: what recovery takes from them are the symbols of the rule, `recover-slots`. Every server plays its own
-- part.
use mathlib.Core.Path.{◌≡◌, refl}
use mathlib.Core.Bool.{true}
use mathlib.Core.List.{List, [], flat_map}
use Prim.Native.Nat.{ℕ, ◌-◌, ◌*◌, ◌≤◌, ◌<◌}
use native.Mathlib.Nat.{mod-lt}
use native.Mathlib.Omega.{arith}
use lib.ListN.{length, get_or}
use Rattle.lists.specs.Parts.{cut}
use Rattle.lists.specs.Ranges.{range}
use Rattle.lists.specs.Below.{Below}
use Rattle.lists.proofs.Mapped.{mapped_at}
use Rattle.parameters.specs.Bounds.{short_fits}
use Rattle.parameters.specs.Measures.{short_sizes}
use Rattle.parameters.proofs.Bounds.{short-bounds}
use Rattle.symbol.specs.Sum.{Sum}
use Rattle.symbol.specs.Group.{AbelianGroup}
use Rattle.scheme.specs.Scheme.{answers_in}
use Rattle.short_scheme.specs.Short.{all_zero, digit_sum, key_sum, short_query, short_answer_length, short_recover, short_scheme}
use Rattle.short_rows.specs.Steps.{Slotted, slot_starts, from_places}
use Rattle.short_rows.proofs.Parts.{recover-parts}

-- within the bounds of the short code, answers lie in slots
pub fits-slotted : (N K S : ℕ) (answers : List ℕ) → short_fits N K S ≡ true → N * S ≤ length answers → Slotted N S answers
fits-slotted N K S answers fits room =
    let b = short-bounds N K S fits in
    record { few = b.servers-high; some = b.symbol_low; small = omega (arith, b.symbol_high); room = room }

module _ (sum : Sum) (N K S wanted : ℕ) (group : AbelianGroup sum S) (key answers : List ℕ) (some : 0 < N) (slotted : Slotted N S answers)
    (bytes : Below 256 answers) where
  abbrev parts : List (List ℕ)
  parts = answers_in (short_scheme sum N K S) N wanted key answers

  lie : (n : ℕ) → n < N → get_or parts n [] ≡ cut (n * S) (short_answer_length S (short_query N wanted n key)) answers
  unfolding answers_in short_sizes
  lie n h = mapped_at (λ i. cut (i * S) (short_answer_length S (short_query N wanted i key)) answers) [] N n h

  pub recover-slots : short_recover sum N S key parts
      ≡ flat_map (from_places sum N S (key_sum N key) (all_zero key) (slot_starts S) answers) (range 1 (N - 1))
  unfolding short_recover
  recover-slots =
      recover-parts sum N S group answers slotted bytes wanted key (λ n. n) parts lie (key_sum N key) (mod-lt (digit_sum key) some) (λ d h. refl)
