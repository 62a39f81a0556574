-- The recovered parts lie within the message (`parts_within`) and cover it (`parts-cover`), as they are its symbols, each once
-- (`symbols-once` in Once).
use mathlib.Core.Path.{◌≡◌, sym, ap, ◌∙◌}
use mathlib.Core.Bool.{Bool, true}
use mathlib.Core.List.{List, [], map}
use Prim.Native.Nat.{ℕ, ◌+◌, ◌-◌, ◌*◌, ◌/◌, ◌%◌, ◌^◌, ◌<◌}
use native.Mathlib.Nat.{zero-mul, suc-mul, mul-le-mul_right, mod-lt, div-add-mod', div-lt_iff_lt-mul, one-le-pow}
use native.Mathlib.Omega.{arith}
use lib.ListN.{length, get_or, length-map, get_or-map}
use Rattle.lists.specs.Arranged.{place_in}
use Rattle.lists.specs.Ranges.{range}
use Rattle.lists.specs.Sums.{All}
use Rattle.lists.proofs.Any.{Any-at}
use Rattle.lists.proofs.Ranges.{All-range}
use Rattle.lists.proofs.Arranged.{Permutation, covers}
use Rattle.lists.proofs.Each.{All-get, All-imp, All-keep, All-flatMap, All-map}
use Rattle.symbol.specs.Sum.{Sum}
use Rattle.scheme.specs.Scheme.{Valid}
use Rattle.even_places.specs.Rule.{has, ones_in}
use Rattle.even_places.proofs.RowNumbers.{WantedRow}
use Rattle.even_places.proofs.AllSets.{IsSet, all-sets}
use Rattle.even_scheme.specs.Even.{entry_at, recovered_symbol, wanted_place, recovered_part, server_parts, recovered_parts, even_scheme}
use Rattle.lists.specs.Assembled.{Part}
use Rattle.lists.proofs.Assembled.{PartWithin, Covers}
use Rattle.even_scheme.proofs.Once.{symbols-once}
use Rattle.even_scheme.proofs.Symbols.{number-below}

module _ (sum : Sum) (N K S k : ℕ) (key : List ℕ) (answers : List (List ℕ)) where
  part : ℕ → List Bool → ℕ → Part
  part n A i = recovered_part sum N K S k key answers n A i

  set_parts : ℕ → List Bool → List Part
  set_parts n A = map (part n A) (range 0 ((N - 1) ^ (ones_in A - 1)))

  -- what holds of the part of each row with the wanted message holds of each part
  pub each_part : {P : Part → Type 0} → ((n : ℕ) (A : List Bool) (i : ℕ) → WantedRow N K k n A i → P (recovered_part sum N K S k key answers n A i))
      → All P (recovered_parts sum N K S k key answers)
  unfolding recovered_parts server_parts part set_parts
  each_part {P} p =
      All-flatMap (server_parts sum N K S k key answers)
      (All-range N (λ n l. All-flatMap (set_parts n) (All-imp (λ A h. of-set n l A h.0 h.1) (All-keep (has k) (all-sets K)))))
    where
      of-set : (n : ℕ) → n < N → (A : List Bool) → IsSet K A → has k A ≡ true → All P (set_parts n A)
      of-set n l A good in-set =
          All-map (part n A)
          (All-range ((N - 1) ^ (ones_in A - 1)) (λ i h. p n A i (record { server-below = l; set-good = good; in-set = in-set; row_below = h })))

-- each recovered symbol has its length
abbrev pub Whole : Sum → ℕ → ℕ → ℕ → ℕ → List (List ℕ) → Type 0
Whole sum N K S k answers = (n : ℕ) (A : List Bool) (i : ℕ) → WantedRow N K k n A i → length (recovered_symbol sum N K S k answers n A i) ≡ S

module _ (sum : Sum) (N K S k : ℕ) (key : List ℕ) (answers : List (List ℕ)) (wide : 1 < N) (known : k < K) (valid : Valid (even_scheme sum N K S) key)
    (whole : Whole sum N K S k answers) where
  pub parts_within : All (PartWithin (N ^ K * S)) (recovered_parts sum N K S k key answers)
  unfolding recovered_part
  parts_within = each_part sum N K S k key answers (λ n A i wanted.
      let number = entry_at N K key k (wanted_place sum N K S k n A i) in
      let below : number < N ^ K = number-below N K key k (wanted_place sum N K S k n A i) valid.good known (one-le-pow K N (omega arith)) in
      omega (arith, whole n A i wanted, suc-mul number S, mul-le-mul_right S below))

  -- byte j lies in the part of symbol j / S
  pub parts-cover : 0 < S → Covers (N ^ K * S) (recovered_parts sum N K S k key answers)
  unfolding recovered_part
  parts-cover sized j h = Any-at (0, []) parts i below (omega (arith, starts, whole-symbols), omega (arith, starts, long, whole-symbols, mod-lt j sized))
    where
      parts : List Part
      parts = recovered_parts sum N K S k key answers

      once : (numbers : List ℕ) × Permutation (N ^ K) numbers × (map (λ part. part.0) parts ≡ map (λ number. number * S) numbers)
      once = symbols-once sum N K S k key answers wide known valid

      numbers : List ℕ
      numbers = once.0

      i : ℕ
      i = place_in (j / S) numbers

      there : (i < N ^ K) × (get_or numbers i 0 ≡ j / S)
      there = covers (N ^ K) numbers once.1 (j / S) ((div-lt_iff_lt-mul sized).1 h)

      below : i < length parts
      below = omega (arith, there.0, once.1.long, length-map parts (λ part. part.0), ap length once.2, length-map numbers (λ number. number * S))

      starts : (get_or parts i (0, [])).0 ≡ j / S * S
      starts =
          sym (get_or-map (λ part. part.0) parts i (0, []))
          ∙ ap (λ (l : List ℕ). get_or l i 0) once.2
          ∙ ap (λ (d : ℕ). get_or (map (λ number. number * S) numbers) i d) (sym (zero-mul S))
          ∙ get_or-map (λ number. number * S) numbers i 0
          ∙ ap (λ (t : ℕ). t * S) there.1

      long : length (get_or parts i (0, [])).1 ≡ S
      long = All-get {P = λ part. length part.1 ≡ S} (0, []) (each_part sum N K S k key answers whole) i below

      whole-symbols : j / S * S + j % S ≡ j
      whole-symbols = div-add-mod' j S
