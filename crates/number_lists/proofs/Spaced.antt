-- Texts of numbers with a space between: how long they are (`byte-length`), and how they are made one after another (`after_more`,
-- `spaced-some`).
use mathlib.Core.Path.{◌≡◌, refl, ap, ◌∙◌}
use mathlib.Core.List.{List, [], ◌∷◌, ◌++◌, flat_map}
use Prim.Native.Nat.{ℕ, ◌+◌, ◌≤◌, ◌<◌}
use native.Mathlib.Numerals.{add-one}
use native.Mathlib.Omega.{arith}
use lib.ListN.{length, get_or, take, drop}
use lib.Seq.{drop-cons}
use Rattle.lists.proofs.Joined.{flat_map-take}
use Rattle.text_lines.specs.Decimal.{decimal}
use Rattle.text_lines.proofs.Decimal.{length_most}
use Rattle.number_lists.specs.NumberLists.{after_space, after_spaces, spaced}

pub byte-length : (n : ℕ) → n < 256 → length (decimal n) ≤ 3
byte-length n h = length_most 2 n (omega arith)

pub after_none : (numbers : List ℕ) → after_spaces (take 0 numbers) ≡ []
unfolding after_spaces flat_map
after_none numbers = refl

pub after_more : (numbers : List ℕ) (i : ℕ) → i < length numbers
    → after_spaces (take (i + 1) numbers) ≡ after_spaces (take i numbers) ++ after_space (get_or numbers i 0)
unfolding after_spaces flat_map
after_more numbers i h = ap (λ (n : ℕ). after_spaces (take n numbers)) (add-one i) ∙ flat_map-take after_space numbers i 0 h

pub spaced-none : (numbers : List ℕ) → length numbers ≡ 0 → spaced numbers ≡ []
unfolding spaced
spaced-none [] e = refl
spaced-none (n ∷ numbers) e = absurd (let w : ⊥ = omega arith in w)

pub spaced-some : (numbers : List ℕ) → 0 < length numbers → spaced numbers ≡ decimal (get_or numbers 0 0) ++ after_spaces (drop 1 numbers)
unfolding spaced
spaced-some numbers h = ap spaced (drop-cons numbers 0 0 h)
