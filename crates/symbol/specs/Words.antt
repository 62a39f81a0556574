-- Addition of 16-bit words, the low byte first, wrapping at 65,536 (document 02, item 2: `sum=add`), and the subtraction that undoes it.
use Rattle.std.specs.Prelude.{ℕ, ◌+◌, ◌*◌, ◌-◌, ◌/◌, ◌%◌, ◌≡◌, ◌<◌, List, [], ◌∷◌}
use Rattle.symbol.specs.Sum.{Sum}

-- the word of two bytes
abbrev pub word : ℕ → ℕ → ℕ
word low high = low + 256 * high

-- the bytes of a word, and the rest behind them
abbrev pub word_then : ℕ → List ℕ → List ℕ
word_then w rest = w % 256 ∷ w / 256 ∷ rest

-- add_at m a b: the sum, wrapping at m
abbrev pub add_at : ℕ → ℕ → ℕ → ℕ
add_at m a b = (a + b) % m

-- sub_at m a b: the difference, wrapping at m
abbrev pub sub_at : ℕ → ℕ → ℕ → ℕ
sub_at m a b = (a + (m - b % m)) % m

-- Word by word, wrapping at 65,536. Where the strings end inside a word, its lone low byte is changed by itself, wrapping at 256; no symbol of an
-- admitted catalogue ends there. Where the second string is shorter, the rest of the first stays
unfoldable pub on_words : (ℕ → ℕ → ℕ → ℕ) → List ℕ → List ℕ → List ℕ
on_words change [] b = []
on_words change (x ∷ a) [] = x ∷ a
on_words change (x ∷ []) (y ∷ b) = change 256 x y ∷ []
on_words change (x ∷ v ∷ a) (y ∷ []) = change 256 x y ∷ v ∷ a
on_words change (x ∷ v ∷ a) (y ∷ w ∷ b) = word_then (change 65536 (word x v) (word y w)) (on_words change a b)

abbrev pub add_words : List ℕ → List ℕ → List ℕ
add_words = on_words add_at

abbrev pub sub_words : List ℕ → List ℕ → List ℕ
sub_words = on_words sub_at

abbrev pub words : Sum
words = record { plus = add_words; minus = sub_words }

-- what a step gives for two words is what the one changed by the other is; and what that is for two bytes has the low byte that they give alone
pub record Steps (gives : ℕ → ℕ → ℕ → Type 0) (change : ℕ → ℕ → ℕ → ℕ) : Type 0 where
  pub on_word : (a b r : ℕ) → a < 65536 → b < 65536 → gives a b r → r ≡ change 65536 a b
  pub on_byte : (a b : ℕ) → a < 256 → b < 256 → change 65536 a b % 256 ≡ change 256 a b
