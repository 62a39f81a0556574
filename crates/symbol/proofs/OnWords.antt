-- Laws of every change of a string word by word (`on_words`): its length and bytes, its prefixes (`words_take`), and how one change undoes another
-- (`words-undo`), where each does so on numbers.
use mathlib.Core.Path.{◌≡◌, refl, sym, ap, ap₂, ◌∙◌}
use mathlib.Core.List.{List, [], ◌∷◌}
use Prim.Native.Nat.{ℕ, zero, suc, ◌/◌, ◌%◌, ◌<◌}
use native.Mathlib.Omega.{arith}
use lib.ListN.{length, take}
use lib.Seq.{take-nil}
use Rattle.lists.specs.Below.{Below}
use Rattle.lists.proofs.Below.{below-cons}
use Rattle.symbol.specs.Words.{word, word_then, on_words}

abbrev cons : ℕ → List ℕ → List ℕ
cons x l = x ∷ l

-- a word is its two bytes, and two bytes are a word's
pub word_bytes : (s : ℕ) → word (s % 256) (s / 256) ≡ s
word_bytes s = omega arith

pub bytes_word : (x v : ℕ) (l : List ℕ) → x < 256 → word_then (word x v) l ≡ x ∷ v ∷ l
bytes_word x v l h = ap₂ (λ (p q : ℕ). p ∷ q ∷ l) (omega arith) (omega arith)

module _ (f : ℕ → ℕ → ℕ → ℕ) where
  pub words-length : (a b : List ℕ) → length (on_words f a b) ≡ length a
  unfolding on_words
  words-length [] b = refl
  words-length (x ∷ a) [] = refl
  words-length (x ∷ []) (y ∷ b) = refl
  words-length (x ∷ v ∷ a) (y ∷ []) = refl
  words-length (x ∷ v ∷ a) (y ∷ w ∷ b) = ap (λ (n : ℕ). suc (suc n)) (words-length a b)

  pub words-below : ((m a b : ℕ) → 0 < m → f m a b < m) → (a b : List ℕ) → Below 256 a → Below 256 (on_words f a b)
  unfolding on_words
  words-below wraps [] b p = p
  words-below wraps (x ∷ a) [] p = p
  words-below wraps (x ∷ []) (y ∷ b) p = below-cons 256 (f 256 x y) [] (wraps 256 x y (omega arith)) (λ i h. p (suc i) (omega arith))
  words-below wraps (x ∷ v ∷ a) (y ∷ []) p = below-cons 256 (f 256 x y) (v ∷ a) (wraps 256 x y (omega arith)) (λ i h. p (suc i) (omega arith))
  words-below wraps (x ∷ v ∷ a) (y ∷ w ∷ b) p =
      let s = f 65536 (word x v) (word y w) in
      let small : s < 65536 = wraps 65536 (word x v) (word y w) (omega arith) in
      below-cons 256 (s % 256) (s / 256 ∷ on_words f a b) (omega arith)
      (below-cons 256 (s / 256) (on_words f a b) (omega arith) (words-below wraps a b (λ i h. p (suc (suc i)) (omega arith))))

  -- where the low byte of a word's result comes from the low bytes, the first n bytes come from the first n bytes
  pub words_take : ((x v y w : ℕ) → f 65536 (word x v) (word y w) % 256 ≡ f 256 x y)
      → (n : ℕ) (a b : List ℕ) → take n (on_words f a b) ≡ on_words f (take n a) (take n b)
  unfolding on_words
  words_take low zero a b = refl
  words_take low (suc n) [] b = refl
  words_take low (suc n) (x ∷ a) [] = refl
  words_take low (suc n) (x ∷ []) (y ∷ b) = ap (cons (f 256 x y)) (take-nil n) ∙ ap (λ (l : List ℕ). on_words f (x ∷ l) (y ∷ take n b)) (sym (take-nil n))
  words_take low (suc zero) (x ∷ v ∷ a) (y ∷ []) = refl
  words_take low (suc (suc n)) (x ∷ v ∷ a) (y ∷ []) = refl
  words_take low (suc zero) (x ∷ v ∷ a) (y ∷ w ∷ b) = ap (λ (r : ℕ). r ∷ []) (low x v y w)
  words_take low (suc (suc n)) (x ∷ v ∷ a) (y ∷ w ∷ b) = ap (word_then (f 65536 (word x v) (word y w))) (words_take low n a b)

-- one operation undoes another, if it does so at each number below where it wraps
pub words-undo : (f g : ℕ → ℕ → ℕ → ℕ) → ((m a b : ℕ) → a < m → g m (f m a b) b ≡ a)
    → (a b : List ℕ) → Below 256 a → on_words g (on_words f a b) b ≡ a
unfolding on_words
words-undo f g undo [] b p = refl
words-undo f g undo (x ∷ a) [] p = refl
words-undo f g undo (x ∷ []) (y ∷ b) p = ap (λ (r : ℕ). r ∷ []) (undo 256 x y (p 0 (omega arith)))
words-undo f g undo (x ∷ v ∷ a) (y ∷ []) p = ap (λ (r : ℕ). r ∷ v ∷ a) (undo 256 x y (p 0 (omega arith)))
words-undo f g undo (x ∷ v ∷ a) (y ∷ w ∷ b) p =
    let hx : x < 256 = p 0 (omega arith) in
    let hv : v < 256 = p 1 (omega arith) in
    let s = f 65536 (word x v) (word y w) in
    let back : g 65536 (word (s % 256) (s / 256)) (word y w) ≡ word x v =
    ap (λ (r : ℕ). g 65536 r (word y w)) (word_bytes s) ∙ undo 65536 (word x v) (word y w) (omega arith) in
    ap₂ word_then back (words-undo f g undo a b (λ i h. p (suc (suc i)) (omega arith))) ∙ bytes_word x v a hx
