-- Parts that are written (`put`): one after another (`put-put`, and in a row of calls `put_next`, `put_three`), before another,
-- over zeros (`put-padded`), over a whole buffer (`put_whole`); and what a part that was lent and written leaves in its buffer (`put-part`).
use mathlib.Core.Path.{◌≡◌, refl, sym, ap, ap₂, ◌∙◌}
use mathlib.Core.List.{List, [], ◌∷◌, ◌++◌, append_assoc, append-nil}
use Prim.Native.Nat.{ℕ, zero, suc, ◌+◌, ◌-◌, ◌≤◌, ◌<◌}
use native.Mathlib.Nat.{zero-add, add-sub_cancel_left, not-suc-le-zero, le_of_suc-le-suc, le_of_eq}
use native.Mathlib.Numerals.{add-one}
use native.Mathlib.Omega.{arith}
use lib.ListN.{length, take, drop, set, get_or, replicate, length-append, length-drop, drop_of_length-le, take-append-drop}
use lib.Seq.{length-take-le, take_at, drop_at, drop-drop, drop-cons, take-suc, take-suc-set, append_snoc, set_at, paste-suc}
use Rattle.lists.specs.Padded.{padded}
use Rattle.lists.specs.Parts.{put}
use Rattle.lists.proofs.Replicate.{drop-replicate}

pub put-length : (at : ℕ) (bytes buffer : List ℕ) → at + length bytes ≤ length buffer → length (put at bytes buffer) ≡ length buffer
put-length at bytes buffer h =
    let rest = drop (length bytes) (drop at buffer) in
    let e = length-append (take at buffer) (bytes ++ rest) in
    let f = length-append bytes rest in
    let g = length-take-le at buffer (omega arith) in
    let d = length-drop (length bytes) (drop at buffer) in
    let k = length-drop at buffer in
    omega arith

-- writing nothing
pub put-nil : (at : ℕ) (buffer : List ℕ) → put at [] buffer ≡ buffer
put-nil at buffer = take-append-drop at buffer

-- one byte, then the others
pub put-cons : (at x : ℕ) (bytes buffer : List ℕ) → at < length buffer → put at (x ∷ bytes) buffer ≡ put (suc at) bytes (set buffer at x)
put-cons at x bytes [] h = absurd (not-suc-le-zero h)
put-cons zero x bytes (y ∷ buffer) h = refl
put-cons (suc at) x bytes (y ∷ buffer) h = ap (λ (l : List ℕ). y ∷ l) (put-cons at x bytes buffer (le_of_suc-le-suc h))

-- a byte written before a part is the part's first
pub put-before : (at byte : ℕ) (bytes buffer : List ℕ) → at < length buffer
    → set (put (suc at) bytes buffer) at byte ≡ put at (byte ∷ bytes) buffer
put-before at byte bytes buffer h =
    let rest = bytes ++ drop (length bytes) (drop (suc at) buffer) in
    ap (λ (l : List ℕ). set l at byte)
    (ap (λ (l : List ℕ). l ++ rest) (take-suc buffer at 0 h) ∙ append_snoc (take at buffer) (get_or buffer at 0) rest)
    ∙ set_at (take at buffer) (get_or buffer at 0) rest byte at (length-take-le at buffer (omega arith))
    ∙ ap (λ (l : List ℕ). take at buffer ++ (byte ∷ (bytes ++ drop (suc (length bytes)) l))) (sym (drop-cons buffer at 0 h))

-- two parts side by side are one
pub put-put : (at : ℕ) (a b buffer : List ℕ) → at ≤ length buffer → put (at + length a) b (put at a buffer) ≡ put at (a ++ b) buffer
put-put at a b buffer h =
    let front = take at buffer ++ a in
    let rest = drop (length a) (drop at buffer) in
    let whole : put at a buffer ≡ front ++ rest = sym (append_assoc (take at buffer) a rest) in
    let long : length front ≡ at + length a = length-append (take at buffer) a ∙ ap (λ (n : ℕ). n + length a) (length-take-le at buffer h) in
    ap₂ (λ (s t : List ℕ). s ++ (b ++ drop (length b) t))
    (ap (take (at + length a)) whole ∙ take_at front rest (at + length a) long)
    (ap (drop (at + length a)) whole ∙ drop_at front rest (at + length a) long)
    ∙ append_assoc (take at buffer) a (b ++ drop (length b) rest)
    ∙ ap (λ (l : List ℕ). take at buffer ++ l)
    (sym (append_assoc a b (drop (length b) rest))
    ∙ ap (λ (l : List ℕ). (a ++ b) ++ l)
    (drop-drop (length b) (length a) (drop at buffer) ∙ ap (λ (n : ℕ). drop n (drop at buffer)) (sym (length-append a b))))

-- a part that is written where the last one ended
pub put_next : (base at : ℕ) (a b buffer out : List ℕ) → base ≤ length buffer → at ≡ base + length a → out ≡ put base a buffer
    → put at b out ≡ put base (a ++ b) buffer
put_next base at a b buffer out h e f = ap₂ (λ (m : ℕ) (o : List ℕ). put m b o) e f ∙ put-put base a b buffer h

-- three parts, each behind the one before
pub put_three : (at : ℕ) (a b c out out₁ out₂ out₃ : List ℕ) (p₁ p₂ : ℕ) → at ≤ length out
    → p₁ ≡ at + length a → p₂ ≡ p₁ + length b
    → out₁ ≡ put at a out → out₂ ≡ put p₁ b out₁ → out₃ ≡ put p₂ c out₂
    → out₃ ≡ put at (a ++ (b ++ c)) out
put_three at a b c out out₁ out₂ out₃ p₁ p₂ h i₁ i₂ o₁ o₂ o₃ =
    let j : p₂ ≡ at + length (a ++ b) = let l = length-append a b in omega arith in
    let two : out₂ ≡ put at (a ++ b) out = o₂ ∙ put_next at p₁ a b out out₁ h i₁ o₁ in
    o₃ ∙ put_next at p₂ (a ++ b) c out out₂ h j two ∙ ap (λ (l : List ℕ). put at l out) (append_assoc a b c)

-- the part from `at` to `at + size`, lent and left as `bytes`
pub put-part : (at size : ℕ) (bytes buffer : List ℕ) → length bytes ≡ size
    → take at buffer ++ (bytes ++ drop (at + size - at) (drop at buffer)) ≡ put at bytes buffer
put-part at size bytes buffer e =
    ap (λ (n : ℕ). take at buffer ++ (bytes ++ drop n (drop at buffer))) (add-sub_cancel_left at size ∙ sym e)

-- the rest of a buffer from a place on, lent as a part and written at its front
pub rest-written : (at : ℕ) (bytes buffer : List ℕ)
    → take at buffer ++ (put 0 bytes (drop at buffer) ++ drop (length buffer - at) (drop at buffer)) ≡ put at bytes buffer
rest-written at bytes buffer =
    ap (λ (l : List ℕ). take at buffer ++ (put 0 bytes (drop at buffer) ++ l)) (drop_of_length-le (drop at buffer) (le_of_eq (length-drop at buffer)))
    ∙ ap (λ (l : List ℕ). take at buffer ++ l) (append-nil (put 0 bytes (drop at buffer)))

-- a part that fills its buffer
pub put_whole : (bytes buffer : List ℕ) → length bytes ≡ length buffer → put 0 bytes buffer ≡ bytes
put_whole bytes buffer e = ap (λ (l : List ℕ). bytes ++ l) (drop_of_length-le buffer {i = length bytes} (omega arith)) ∙ append-nil bytes

-- written over zeros
pub put-padded : (bytes : List ℕ) (size : ℕ) → put 0 bytes (replicate size 0) ≡ padded size bytes
put-padded bytes size = ap (λ (l : List ℕ). bytes ++ l) (drop-replicate (length bytes) size 0)

-- a copy by one byte more
pub copy_more : (from into : List ℕ) (i : ℕ) → i < length from → i < length into
    → set (take i from ++ drop i into) i (get_or from i 0) ≡ take (i + 1) from ++ drop (i + 1) into
copy_more from into i h k =
    let within : 0 + i < length into = omega arith in
    let step : set (take i from ++ drop (0 + i) into) (0 + i) (get_or from i 0) ≡ take (suc i) from ++ drop (0 + suc i) into =
    paste-suc into 0 from i 0 within h in
    simp (add-one) (simp (zero-add) at step)

-- an element written after the first i
pub write-more : (i x : ℕ) (buffer rest : List ℕ) → i < length buffer → take (i + 1) (set buffer i x) ++ rest ≡ take i buffer ++ (x ∷ rest)
write-more i x buffer rest h = rw (add-one i, take-suc-set buffer i x h) (append_assoc (take i buffer) (x ∷ []) rest)
