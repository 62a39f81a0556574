-- A symbol is moved by moving two bytes of it, those of the word that the changed byte is in; of an odd symbol's last word there is one: `moved-locally`.
use mathlib.Core.Path.{◌≡◌, refl, sym, ap, ap₂, ◌∙◌}
use mathlib.Core.List.{List, [], ◌∷◌, ◌++◌}
use Prim.Native.Nat.{ℕ, zero, suc, ◌+◌, ◌-◌, ◌*◌, ◌/◌, ◌%◌, ◌≤◌, ◌<◌, min}
use native.Mathlib.Nat.{suc-sub-suc, sub-zero, add-sub_cancel_left}
use native.Mathlib.Decide.{dec_lt}
use native.Mathlib.Omega.{arith}
use lib.Bits.{bit_xor, xor_zero_r}
use lib.ListN.{length, take, drop, length-drop}
use lib.Seq.{take_all, length-take-le}
use Rattle.lists.specs.Below.{Below}
use Rattle.lists.specs.Parts.{cut, put}
use Rattle.lists.proofs.Puts.{put-part}
use Rattle.symbol.specs.declared.Operation.{Operation}
use Rattle.symbol.specs.declared.Operation.TheVariants.{ExclusiveOr, Addition}
use Rattle.symbol.specs.Operations.{sum_of}
use Rattle.symbol.specs.Sum.{Sum}
use Rattle.symbol.specs.Words.{add_at, sub_at, word, word_then, on_words, add_words, words}
use Rattle.symbol.specs.Xor.{xor_bytes, xor}
use Rattle.symbol.proofs.Operations.{group_of}
use Rattle.symbol.proofs.OnWords.{bytes_word}
use Rattle.correction.specs.Moved.{shift_of}
use Rattle.correction.proofs.Bytes.{behind-two, rest-stays, shift-long}

-- the two bytes from `at` on moved by byte o of them
abbrev pub moved_pair : Sum → ℕ → ℕ → ℕ → ℕ → List ℕ → List ℕ
moved_pair by at o new old x = put at (by.plus (cut at 2 x) (take (length x - at) (shift_of by 2 o new old))) x

-- two bytes further
further : (by : Sum) (at o new old a b : ℕ) (l : List ℕ) → moved_pair by (suc (suc at)) o new old (a ∷ b ∷ l) ≡ a ∷ b ∷ moved_pair by at o new old l
further by at o new old a b l =
    ap (λ (n : ℕ). a ∷ b ∷ put at (by.plus (cut at 2 l) (take n (shift_of by 2 o new old))) l)
    (suc-sub-suc (suc (length l)) (suc at) ∙ suc-sub-suc (length l) at)

-- at the start
start : (by : Sum) (o new old : ℕ) (x : List ℕ)
    → moved_pair by 0 o new old x ≡ put 0 (by.plus (cut 0 2 x) (take (length x) (shift_of by 2 o new old))) x
start by o new old x = ap (λ (n : ℕ). put 0 (by.plus (cut 0 2 x) (take n (shift_of by 2 o new old))) x) (sub-zero (length x))

module _ (new old : ℕ) where
  xor-locally : (h o : ℕ) (x : List ℕ) → Below 256 x → o < 2 → h * 2 + o < length x
      → moved_pair xor (h * 2) o new old x ≡ xor_bytes x (shift_of xor (length x) (h * 2 + o) new old)
  unfolding xor_bytes
  xor-locally h o [] p l k = absurd (let w : ⊥ = omega arith in w)
  xor-locally zero zero (a ∷ []) p l k = refl
  xor-locally zero (suc o) (a ∷ []) p l k = absurd (let w : ⊥ = omega arith in w)
  xor-locally (suc h) o (a ∷ []) p l k = absurd (let w : ⊥ = omega arith in w)
  xor-locally zero zero (a ∷ b ∷ l) p q k =
      start xor 0 new old (a ∷ b ∷ l) ∙ ap (λ (r : List ℕ). bit_xor a (bit_xor new old) ∷ bit_xor b 0 ∷ r) (sym (rest-stays ExclusiveOr a b l p))
  xor-locally zero (suc zero) (a ∷ b ∷ l) p q k =
      start xor 1 new old (a ∷ b ∷ l) ∙ ap (λ (r : List ℕ). bit_xor a 0 ∷ bit_xor b (bit_xor new old) ∷ r) (sym (rest-stays ExclusiveOr a b l p))
  xor-locally zero (suc (suc o)) (a ∷ b ∷ l) p q k = absurd (let w : ⊥ = omega arith in w)
  xor-locally (suc h) o (a ∷ b ∷ l) p q k =
      let two : suc h * 2 ≡ suc (suc (h * 2)) = omega arith in
      let far : suc h * 2 + o ≡ suc (suc (h * 2 + o)) = omega arith in
      ap (λ (n : ℕ). moved_pair xor n o new old (a ∷ b ∷ l)) two
      ∙ further xor (h * 2) o new old a b l
      ∙ ap₂ (λ (u : ℕ) (r : List ℕ). u ∷ b ∷ r) (sym (xor_zero_r a)) (xor-locally h o l (behind-two a b l p) q (omega arith))
      ∙ ap (λ (v : ℕ). bit_xor a 0 ∷ v ∷ xor_bytes l (shift_of xor (length l) (h * 2 + o) new old)) (sym (xor_zero_r b))
      ∙ ap (λ (n : ℕ). xor_bytes (a ∷ b ∷ l) (shift_of xor (suc (suc (length l))) n new old)) (sym far)

  words-locally : (h o : ℕ) (x : List ℕ) → Below 256 x → o < 2 → h * 2 + o < length x
      → moved_pair words (h * 2) o new old x ≡ add_words x (shift_of words (length x) (h * 2 + o) new old)
  unfolding on_words
  words-locally h o [] p l k = absurd (let w : ⊥ = omega arith in w)
  words-locally zero zero (a ∷ []) p l k =
      ap (λ (v : ℕ). v ∷ [])
      (let e : add_at 256 a (sub_at 65536 (word new 0) (word old 0) % 256) ≡ add_at 256 a (sub_at 256 new old) = omega arith in e)
  words-locally zero (suc o) (a ∷ []) p l k = absurd (let w : ⊥ = omega arith in w)
  words-locally (suc h) o (a ∷ []) p l k = absurd (let w : ⊥ = omega arith in w)
  words-locally zero zero (a ∷ b ∷ l) p q k =
      let s = sub_at 65536 (word new 0) (word old 0) in
      start words 0 new old (a ∷ b ∷ l)
      ∙ ap (word_then (add_at 65536 (word a b) (word (s % 256) (s / 256)))) (sym (rest-stays Addition a b l p))
  words-locally zero (suc zero) (a ∷ b ∷ l) p q k =
      let s = sub_at 65536 (word 0 new) (word 0 old) in
      start words 1 new old (a ∷ b ∷ l)
      ∙ ap (word_then (add_at 65536 (word a b) (word (s % 256) (s / 256)))) (sym (rest-stays Addition a b l p))
  words-locally zero (suc (suc o)) (a ∷ b ∷ l) p q k = absurd (let w : ⊥ = omega arith in w)
  words-locally (suc h) o (a ∷ b ∷ l) p q k =
      let ha : a < 256 = p 0 (omega arith) in
      let hb : b < 256 = p 1 (omega arith) in
      let two : suc h * 2 ≡ suc (suc (h * 2)) = omega arith in
      let far : suc h * 2 + o ≡ suc (suc (h * 2 + o)) = omega arith in
      let rest = add_words l (shift_of words (length l) (h * 2 + o) new old) in
      ap (λ (n : ℕ). moved_pair words n o new old (a ∷ b ∷ l)) two
      ∙ further words (h * 2) o new old a b l
      ∙ ap (λ (r : List ℕ). a ∷ b ∷ r) (words-locally h o l (behind-two a b l p) q (omega arith))
      ∙ sym (bytes_word a b rest ha)
      ∙ ap (λ (w : ℕ). word_then w rest) (let e : word a b ≡ add_at 65536 (word a b) (word 0 0) = omega arith in e)
      ∙ ap (λ (n : ℕ). add_words (a ∷ b ∷ l) (shift_of words (suc (suc (length l))) n new old)) (sym far)

pub moved-locally : (op : Operation) (h o new old : ℕ) (x : List ℕ) → Below 256 x → o < 2 → h * 2 + o < length x
    → moved_pair (sum_of op) (h * 2) o new old x ≡ (sum_of op).plus x (shift_of (sum_of op) (length x) (h * 2 + o) new old)
moved-locally ExclusiveOr h o new old x = xor-locally new old h o x
moved-locally Addition h o new old x = words-locally new old h o x

-- a part that is lent is as long as it is to be
pub lent-long : (from size : ℕ) (x : List ℕ) → from + size ≤ length x → length (take (from + size - from) (drop from x)) ≡ size
lent-long from size x h =
    ap (λ (n : ℕ). length (take n (drop from x))) (add-sub_cancel_left from size)
    ∙ length-take-le size (drop from x) (omega (arith, length-drop from x, h))

-- as code does it: the bytes of the word, or the one that is left of it, are lent
module _ (op : Operation) (byte new old size : ℕ) (x : List ℕ) (inside : byte < length x) (fit : size ≡ min 2 (length x - byte / 2 * 2)) where
  abbrev from : ℕ
  from = byte / 2 * 2

  abbrev pair : List ℕ
  pair = shift_of (sum_of op) 2 (byte % 2) new old

  rest-long : length (drop from x) ≡ length x - from
  rest-long = length-drop from x

  pair-long : length pair ≡ 2
  pair-long = shift-long op 2 (byte % 2) new old

  part_same : take size (drop from x) ≡ cut from 2 x
  part_same = go (dec_lt 1 (length x - from))
    where
      go : Dec (1 < length x - from) → take size (drop from x) ≡ take 2 (drop from x)
      go (yes h) = ap (λ (n : ℕ). take n (drop from x)) (let e : size ≡ 2 = omega (arith, fit) in e)
      go (no h) =
          let one : length (drop from x) ≤ size = omega (arith, fit, rest-long, inside) in
          take_all size (drop from x) one ∙ sym (take_all 2 (drop from x) (omega (arith, fit, rest-long, inside)))

  shift_same : take size pair ≡ take (length x - from) pair
  shift_same = go (dec_lt 1 (length x - from))
    where
      go : Dec (1 < length x - from) → take size pair ≡ take (length x - from) pair
      go (yes h) =
          take_all size pair (omega (arith, fit, pair-long)) ∙ sym (take_all (length x - from) pair (omega (arith, pair-long)))
      go (no h) = ap (λ (n : ℕ). take n pair) (let e : size ≡ length x - from = omega (arith, fit, inside) in e)

  pub moved-part : Below 256 x → (part : List ℕ)
      → part ≡ (sum_of op).plus (take (byte / 2 * 2 + size - byte / 2 * 2) (drop (byte / 2 * 2) x)) (take size (shift_of (sum_of op) 2 (byte % 2) new old))
      → take (byte / 2 * 2) x ++ (part ++ drop (byte / 2 * 2 + size - byte / 2 * 2) (drop (byte / 2 * 2) x))
      ≡ (sum_of op).plus x (shift_of (sum_of op) (length x) byte new old)
  moved-part bytes part e =
      let made : part ≡ (sum_of op).plus (take size (drop from x)) (take size pair) =
      e ∙ ap (λ (n : ℕ). (sum_of op).plus (take n (drop from x)) (take size pair)) (add-sub_cancel_left from size) in
      let long : length part ≡ size =
      ap length made
      ∙ (group_of op size).plus-length (take size (drop from x)) (take size pair)
      (length-take-le size (drop from x) (omega (arith, fit, rest-long))) (length-take-le size pair (omega (arith, fit, pair-long))) in
      let whole : byte / 2 * 2 + byte % 2 ≡ byte = omega arith in
      put-part from size part x long
      ∙ ap (λ (l : List ℕ). put from l x) (made ∙ ap₂ (λ (a b : List ℕ). (sum_of op).plus a b) part_same shift_same)
      ∙ moved-locally op (byte / 2) (byte % 2) new old x bytes (omega arith) (omega arith)
      ∙ ap (λ (n : ℕ). (sum_of op).plus x (shift_of (sum_of op) (length x) n new old)) whole
