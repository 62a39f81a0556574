-- A symbol with one byte changed is the symbol moved by the new value less the old, in either sum: `byte-moved`. Under exclusive or every byte is moved
-- by itself; under addition the word that the byte is in, from its low or its high byte, and no other word.
use mathlib.Core.Path.{◌≡◌, sym, ap, ap₂, ◌∙◌}
use mathlib.Core.List.{List, [], ◌∷◌}
use Prim.Native.Nat.{ℕ, zero, suc, ◌/◌, ◌%◌, ◌<◌}
use native.Mathlib.Omega.{arith}
use lib.Bits.{bit_xor, xor_comm, xor_self, xor_zero_r}
use lib.ListN.{length, get_or, set}
use Rattle.lists.specs.Below.{Below}
use Rattle.symbol.specs.declared.Operation.{Operation}
use Rattle.symbol.specs.declared.Operation.TheVariants.{ExclusiveOr, Addition}
use Rattle.symbol.specs.Operations.{sum_of}
use Rattle.symbol.specs.Sum.{zeros}
use Rattle.symbol.specs.Words.{add_at, sub_at, word, word_then, on_words, add_words, sub_words, words}
use Rattle.symbol.specs.Xor.{xor_bytes, xor}
use Rattle.symbol.proofs.Bits.{xor_assoc}
use Rattle.symbol.proofs.OnWords.{word_bytes, bytes_word}
use Rattle.symbol.proofs.Totals.{plus-nothing}
use Rattle.symbol.proofs.XorGroup.{xor-group}
use Rattle.correction.specs.Moved.{shift_of}
use Rattle.correction.proofs.Bytes.{behind-one, behind-two, as-symbol, rest-stays}

xor-new : (old new : ℕ) → new ≡ bit_xor old (bit_xor new old)
xor-new old new =
    sym (ap (bit_xor old) (xor_comm new old) ∙ sym (xor_assoc old old new) ∙ ap (λ (z : ℕ). bit_xor z new) (xor_self old) ∙ xor_comm 0 new ∙ xor_zero_r new)

xor-moved : (x : List ℕ) (byte new : ℕ) → Below 256 x → byte < length x
    → set x byte new ≡ xor_bytes x (shift_of xor (length x) byte new (get_or x byte 0))
unfolding xor_bytes
xor-moved [] byte new p h = absurd (let w : ⊥ = omega arith in w)
xor-moved (x ∷ l) zero new p h =
    ap₂ (λ (a : ℕ) (b : List ℕ). a ∷ b) (xor-new x new) (sym (plus-nothing xor (length l) (xor-group (length l)) (as-symbol l (behind-one x l p))))
xor-moved (x ∷ l) (suc byte) new p h =
    ap₂ (λ (a : ℕ) (b : List ℕ). a ∷ b) (sym (xor_zero_r x)) (xor-moved l byte new (behind-one x l p) (omega arith))

-- the word of two bytes, its low or its high byte new
module _ (x y new : ℕ) (hx : x < 256) (hy : y < 256) (hn : new < 256) where
  low-new : word new y ≡ add_at 65536 (word x y) (sub_at 65536 (word new 0) (word x 0))
  low-new = omega arith

  high-new : word x new ≡ add_at 65536 (word x y) (sub_at 65536 (word 0 new) (word 0 y))
  high-new = omega arith

-- a word added to, as two bytes
joined : (x y s : ℕ) (l : List ℕ) → (a b : ℕ) → a < 256 → word a b ≡ add_at 65536 (word x y) s
    → a ∷ b ∷ l ≡ word_then (add_at 65536 (word x y) (word (s % 256) (s / 256))) l
joined x y s l a b h e =
    sym (bytes_word a b l h) ∙ ap (λ (w : ℕ). word_then w l) (e ∙ ap (add_at 65536 (word x y)) (sym (word_bytes s)))

words-moved : (x : List ℕ) (byte new : ℕ) → Below 256 x → byte < length x → new < 256
    → set x byte new ≡ add_words x (shift_of words (length x) byte new (get_or x byte 0))
unfolding on_words
words-moved [] byte new p h n = absurd (let w : ⊥ = omega arith in w)
words-moved (x ∷ []) zero new p h n =
    let hx : x < 256 = p 0 (omega arith) in
    ap (λ (a : ℕ). a ∷ []) (let e : new ≡ add_at 256 x (sub_at 256 new x) = omega arith in e)
words-moved (x ∷ []) (suc byte) new p h n = absurd (let w : ⊥ = omega arith in w)
words-moved (x ∷ y ∷ l) zero new p h n =
    let hx : x < 256 = p 0 (omega arith) in
    let hy : y < 256 = p 1 (omega arith) in
    ap (λ (r : List ℕ). new ∷ y ∷ r) (sym (rest-stays Addition x y l p))
    ∙ joined x y (sub_at 65536 (word new 0) (word x 0)) (add_words l (sub_words (zeros (length l)) (zeros (length l)))) new y n (low-new x y new hx hy n)
words-moved (x ∷ y ∷ l) (suc zero) new p h n =
    let hx : x < 256 = p 0 (omega arith) in
    let hy : y < 256 = p 1 (omega arith) in
    ap (λ (r : List ℕ). x ∷ new ∷ r) (sym (rest-stays Addition x y l p))
    ∙ joined x y (sub_at 65536 (word 0 new) (word 0 y)) (add_words l (sub_words (zeros (length l)) (zeros (length l)))) x new hx (high-new x y new hx hy n)
words-moved (x ∷ y ∷ l) (suc (suc byte)) new p h n =
    let hx : x < 256 = p 0 (omega arith) in
    let hy : y < 256 = p 1 (omega arith) in
    ap (λ (r : List ℕ). x ∷ y ∷ r) (words-moved l byte new (behind-two x y l p) (omega arith) n)
    ∙ joined x y 0 (add_words l (shift_of words (length l) byte new (get_or l byte 0))) x y hx
    (let e : word x y ≡ add_at 65536 (word x y) 0 = omega arith in e)

pub byte-moved : (op : Operation) (x : List ℕ) (byte new : ℕ) → Below 256 x → byte < length x → new < 256
    → set x byte new ≡ (sum_of op).plus x (shift_of (sum_of op) (length x) byte new (get_or x byte 0))
byte-moved ExclusiveOr x byte new p h n = xor-moved x byte new p h
byte-moved Addition x byte new p h n = words-moved x byte new p h n
