-- One word more of a string changed in place (`word-step`), and its end: nothing is left (`words-done`), or one byte (`byte_left`).
use mathlib.Core.Path.{◌≡◌, refl, ap}
use mathlib.Core.List.{List, [], ◌∷◌, ◌++◌, append-nil}
use Prim.Native.Nat.{ℕ, zero, suc, ◌+◌, ◌/◌, ◌%◌, ◌<◌, ◌≤◌}
use native.Mathlib.Numerals.{add-one}
use native.Mathlib.Omega.{arith}
use lib.ListN.{length, take, drop, get_or, set, drop_of_length-le}
use lib.Seq.{take_all}
use Rattle.symbol.specs.Words.{word, on_words, Steps}

abbrev cons : ℕ → List ℕ → List ℕ
cons x l = x ∷ l

-- where a step gives what `change` does, the low byte that it gives for two bytes is what that does to them alone
pub low_byte : (gives : ℕ → ℕ → ℕ → Type 0) (change : ℕ → ℕ → ℕ → ℕ) → Steps gives change
    → (x y r : ℕ) → x < 256 → y < 256 → gives x y r → r % 256 ≡ change 256 x y
low_byte gives change s x y r h k g = rw (s.on_word x y r (omega arith) (omega arith) g) (s.on_byte x y h k)

module _ (f : ℕ → ℕ → ℕ → ℕ) where
  -- the first i bytes are done, the rest is to be changed by the rest of s
  abbrev pub from : ℕ → List ℕ → List ℕ → List ℕ
  from i d s = take i d ++ on_words f (drop i d) (drop i s)

  -- the word at i, and at j = i + 1, changed
  abbrev next : ℕ → ℕ → List ℕ → List ℕ → ℕ
  next i j d s = f 65536 (word (get_or d i 0) (get_or d j 0)) (word (get_or s i 0) (get_or s j 0))

  step : (i : ℕ) (d s : List ℕ) → suc i < length d → suc i < length s
      → from i d s ≡ from (suc (suc i)) (set (set d i (next i (suc i) d s % 256)) (suc i) (next i (suc i) d s / 256)) s
  unfolding on_words
  step i [] s h k = absurd (omega arith)
  step i (x ∷ d) [] h k = absurd (omega arith)
  step zero (x ∷ []) (y ∷ s) h k = absurd (omega arith)
  step zero (x ∷ v ∷ d) (y ∷ []) h k = absurd (omega arith)
  step zero (x ∷ v ∷ d) (y ∷ w ∷ s) h k = refl
  step (suc i) (x ∷ d) (y ∷ s) h k = ap (cons x) (step i d s (omega arith) (omega arith))

  -- the word is written as its two bytes
  pub word-step : (i value : ℕ) (d s e : List ℕ) → i + 1 < length d → i + 1 < length s → value ≡ next i (i + 1) d s
      → e ≡ set (set d i (value % 256)) (i + 1) (value / 256) → from i d s ≡ from (i + 2) e s
  word-step i value d s e h k p q =
      let two : i + 2 ≡ suc (suc i) = omega arith in
      rw (q, p, add-one, two) (step i d s (omega arith) (omega arith))

  pub byte_left : (i : ℕ) (d s : List ℕ) → length d ≡ suc i → length s ≡ suc i → from i d s ≡ set d i (f 256 (get_or d i 0) (get_or s i 0))
  unfolding on_words
  byte_left i [] s h k = absurd (omega arith)
  byte_left i (x ∷ d) [] h k = absurd (omega arith)
  byte_left zero (x ∷ []) (y ∷ s) h k = refl
  byte_left zero (x ∷ v ∷ d) (y ∷ s) h k = absurd (omega arith)
  byte_left (suc i) (x ∷ d) (y ∷ s) h k = ap (cons x) (byte_left i d s (omega arith) (omega arith))

  pub words-done : (i : ℕ) (d s : List ℕ) → length d ≤ i → from i d s ≡ d
  unfolding on_words
  words-done i d s h = rw (take_all i d h, drop_of_length-le d h) (append-nil d)
