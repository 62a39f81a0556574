-- Addition of words is commutative, associative and has its zero (`add-words-comm`, `add-words-assoc`, `add-zeros`); subtraction undoes it and is
-- undone by it (`add-sub-words`, `sub-add-words`). Each comes from the like law of numbers that wrap.
use mathlib.Core.Path.{◌≡◌, refl, sym, ap, ap₂, ◌∙◌}
use mathlib.Core.List.{List, [], ◌∷◌}
use Prim.Native.Nat.{ℕ, suc, ◌+◌, ◌*◌, ◌-◌, ◌/◌, ◌%◌, ◌<◌}
use native.Mathlib.Nat.{mod-lt, mod-eq_of_lt, mod-add-mod, add-mod-mod, add_comm, add_assoc, add-mul-mod_self_right, div-add-mod'}
use native.Mathlib.Omega.{arith}
use lib.ListN.{length, take}
use Rattle.lists.specs.Below.{Below}
use Rattle.symbol.specs.Sum.{zeros}
use Rattle.symbol.specs.Words.{add_at, sub_at, word, word_then, on_words, add_words, sub_words}
use Rattle.symbol.proofs.OnWords.{word_bytes, bytes_word, words-below, words_take, words-undo}

-- two strings of one length, two bytes at a time
data Alike : List ℕ → List ℕ → Type 0 where
  none : Alike [] []
  one : {x y : ℕ} → Alike (x ∷ []) (y ∷ [])
  two : {x v y w : ℕ} {a b : List ℕ} → Alike a b → Alike (x ∷ v ∷ a) (y ∷ w ∷ b)

alike : (a b : List ℕ) → length a ≡ length b → Alike a b
alike [] [] h = none
alike [] (y ∷ b) h = absurd (omega arith)
alike (x ∷ a) [] h = absurd (omega arith)
alike (x ∷ []) (y ∷ []) h = one
alike (x ∷ []) (y ∷ w ∷ b) h = absurd (omega arith)
alike (x ∷ v ∷ a) (y ∷ []) h = absurd (omega arith)
alike (x ∷ v ∷ a) (y ∷ w ∷ b) h = two (alike a b (omega arith))

-- numbers that wrap at m
module _ (m a b : ℕ) where
  add_wraps : 0 < m → add_at m a b < m
  add_wraps h = mod-lt (a + b) h

  sub_wraps : 0 < m → sub_at m a b < m
  sub_wraps h = mod-lt (a + (m - b % m)) h

  -- what is added and taken away is a multiple of m
  whole : 0 < m → b + (m - b % m) ≡ (b / m + 1) * m
  whole h = omega (arith, div-add-mod' b m, mod-lt b h)

  add-sub : a < m → sub_at m (add_at m a b) b ≡ a
  add-sub h =
      mod-add-mod (a + b) m (m - b % m) ∙ ap (λ (n : ℕ). n % m) (add_assoc a b (m - b % m) ∙ ap (λ (n : ℕ). a + n) (whole (omega arith)))
      ∙ add-mul-mod_self_right a (b / m + 1) m ∙ mod-eq_of_lt h

  sub-add : a < m → add_at m (sub_at m a b) b ≡ a
  sub-add h =
      mod-add-mod (a + (m - b % m)) m b
      ∙ ap (λ (n : ℕ). n % m) (let e : a + (m - b % m) + b ≡ a + (b / m + 1) * m = omega (arith, whole (omega arith)) in e)
      ∙ add-mul-mod_self_right a (b / m + 1) m ∙ mod-eq_of_lt h

  add-at-comm : add_at m a b ≡ add_at m b a
  add-at-comm = ap (λ (n : ℕ). n % m) (add_comm a b)

  add-at-assoc : (c : ℕ) → add_at m (add_at m a b) c ≡ add_at m a (add_at m b c)
  add-at-assoc c = mod-add-mod (a + b) m c ∙ ap (λ (n : ℕ). n % m) (add_assoc a b c) ∙ sym (add-mod-mod a (b + c) m)

  -- a byte's or a word's difference
  pub sub_at_lem : b < m → sub_at m a b ≡ (a + (m - b)) % m
  sub_at_lem h = ap (λ (n : ℕ). (a + (m - n)) % m) (mod-eq_of_lt h)

-- strings of bytes
pub add-below : (a b : List ℕ) → Below 256 a → Below 256 (add_words a b)
add-below = words-below add_at add_wraps

pub sub-below : (a b : List ℕ) → Below 256 a → Below 256 (sub_words a b)
sub-below = words-below sub_at sub_wraps

pub add-take : (n : ℕ) (a b : List ℕ) → take n (add_words a b) ≡ add_words (take n a) (take n b)
add-take = words_take add_at (λ x v y w. omega arith)

pub sub-take : (n : ℕ) (a b : List ℕ) → take n (sub_words a b) ≡ sub_words (take n a) (take n b)
sub-take = words_take sub_at (λ x v y w. omega arith)

pub add-sub-words : (a b : List ℕ) → Below 256 a → sub_words (add_words a b) b ≡ a
add-sub-words = words-undo add_at sub_at add-sub

pub sub-add-words : (a b : List ℕ) → Below 256 a → add_words (sub_words a b) b ≡ a
sub-add-words = words-undo sub_at add_at sub-add

pub add-words-comm : (a b : List ℕ) → length a ≡ length b → add_words a b ≡ add_words b a
unfolding on_words
add-words-comm a b h = go (alike a b h)
  where
    go : {a b : List ℕ} → Alike a b → add_words a b ≡ add_words b a
    go none = refl
    go (one {x} {y}) = ap (λ (r : ℕ). r ∷ []) (add-at-comm 256 x y)
    go (two {x} {v} {y} {w} s) = ap₂ word_then (add-at-comm 65536 (word x v) (word y w)) (go s)

pub add-words-assoc : (a b c : List ℕ) → length a ≡ length b → length b ≡ length c → add_words (add_words a b) c ≡ add_words a (add_words b c)
unfolding on_words
add-words-assoc a b c h k = go (alike a b h) (alike b c k)
  where
    go : {a b c : List ℕ} → Alike a b → Alike b c → add_words (add_words a b) c ≡ add_words a (add_words b c)
    go none none = refl
    go (one {x} {y}) (one {y = z}) = ap (λ (r : ℕ). r ∷ []) (add-at-assoc 256 x y z)
    go (two {x} {v} {y} {w} s) (two {y = z} {w = u} t) =
        ap₂ word_then
        (ap (λ (n : ℕ). add_at 65536 n (word z u)) (word_bytes (add_at 65536 (word x v) (word y w)))
        ∙ add-at-assoc 65536 (word x v) (word y w) (word z u)
        ∙ ap (add_at 65536 (word x v)) (sym (word_bytes (add_at 65536 (word y w) (word z u)))))
        (go s t)

pub add-zeros : (b : List ℕ) → Below 256 b → add_words (zeros (length b)) b ≡ b
unfolding on_words
add-zeros [] p = refl
add-zeros (y ∷ []) p = ap (λ (r : ℕ). r ∷ []) (let h : y < 256 = p 0 (omega arith) in omega arith)
add-zeros (y ∷ w ∷ b) p =
    let hy : y < 256 = p 0 (omega arith) in
    let hw : w < 256 = p 1 (omega arith) in
    let e : add_at 65536 0 (word y w) ≡ word y w = omega arith in
    ap₂ word_then e (add-zeros b (λ i h. p (suc (suc i)) (omega arith))) ∙ bytes_word y w b hy

-- a carry goes into the high byte, the wrap at 65,536 into nothing, no word into the next, and a lone byte wraps at 256
pub some_words : (add_words (255 ∷ 0 ∷ 7 ∷ []) (1 ∷ 0 ∷ 250 ∷ []) ≡ 0 ∷ 1 ∷ 1 ∷ [])
    × (add_words (255 ∷ 255 ∷ 0 ∷ 0 ∷ []) (1 ∷ 0 ∷ 0 ∷ 0 ∷ []) ≡ 0 ∷ 0 ∷ 0 ∷ 0 ∷ [])
unfolding on_words
some_words = (refl, refl)
