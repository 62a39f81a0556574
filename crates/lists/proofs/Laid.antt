-- Parts that are written as far as the buffer reaches (`lay`): they leave its length (`lay-length`), and are what the first bytes of a buffer
-- with room for all would hold (`lay-take`). So what holds of `put` holds of `lay` without a condition on the room: parts side by side are one
-- (`lay-next`), and parts that cover a message are the message, cut where the buffer ends (`lay-all`). What a part that was lent and written
-- leaves in its buffer: `lay-part`, `lay-front`, `lay-rest`.
use mathlib.Core.Path.{◌≡◌, refl, sym, ap, ap₂, ◌∙◌}
use mathlib.Core.List.{List, [], ◌∷◌, ◌++◌, append_assoc}
use Prim.Native.Nat.{ℕ, zero, suc, ◌+◌, ◌-◌, ◌≤◌, min}
use native.Mathlib.Nat.{min-zero, suc-min-suc, zero-sub, suc-sub-suc}
use native.Mathlib.Omega.{arith}
use lib.ListN.{length, take, drop, replicate, length-append, length-take, length-drop, length-replicate, take-append-drop}
use lib.Seq.{length-take-le, take-nil, take-append_seam, drop-append-le}
use Rattle.lists.specs.Parts.{put, lay}
use Rattle.lists.specs.Assembled.{Part, assemble_by, assemble, lay_all}
use Rattle.lists.specs.Sums.{All, all_nil, all_cons}
use Rattle.lists.proofs.Puts.{put-length, put-nil, put-put, put-part, rest-written}
use Rattle.lists.proofs.Assembled.{PartWithin, Covers, still, assemble-length, assemble-anywhere}

-- writing nothing
pub lay-nil : (at : ℕ) (buffer : List ℕ) → lay at [] buffer ≡ buffer
lay-nil at buffer = ap (λ (l : List ℕ). put at l buffer) (take-nil (length buffer - at)) ∙ put-nil at buffer

-- past the end nothing is written
pub lay-past : (at : ℕ) (bytes buffer : List ℕ) → length buffer ≤ at → lay at bytes buffer ≡ buffer
lay-past at bytes buffer h =
    ap (λ (n : ℕ). put at (take n bytes) buffer) (let e : length buffer - at ≡ 0 = omega arith in e) ∙ put-nil at buffer

-- the first n bytes of a buffer with room for all
pub lay-take : (n at : ℕ) (bytes buffer : List ℕ) → at + length bytes ≤ length buffer → lay at bytes (take n buffer) ≡ take n (put at bytes buffer)
lay-take zero at bytes buffer h = ap (λ (n : ℕ). put at (take n bytes) []) (zero-sub at) ∙ put-nil at []
lay-take (suc n) zero [] buffer h = ap (λ (l : List ℕ). put 0 l (take (suc n) buffer)) (take-nil (length (take (suc n) buffer) - 0))
lay-take (suc n) zero (x ∷ bytes) [] h = absurd (let w : ⊥ = omega arith in w)
lay-take (suc n) zero (x ∷ bytes) (y ∷ buffer) h =
    let rest = take n buffer in
    ap (λ (m : ℕ). put 0 (take m (x ∷ bytes)) (y ∷ rest)) (let e : suc (length rest) - 0 ≡ suc (length rest - 0) = omega arith in e)
    ∙ ap (λ (l : List ℕ). x ∷ l) (lay-take n zero bytes buffer (omega arith))
lay-take (suc n) (suc at) bytes [] h = absurd (let w : ⊥ = omega arith in w)
lay-take (suc n) (suc at) bytes (y ∷ buffer) h =
    let rest = take n buffer in
    ap (λ (m : ℕ). put (suc at) (take m bytes) (y ∷ rest)) (suc-sub-suc (length rest) at)
    ∙ ap (λ (l : List ℕ). y ∷ l) (lay-take n at bytes buffer (omega arith))

-- ---- A buffer of any length is the front of one with room

module _ (buffer : List ℕ) (room : ℕ) where
  longer : List ℕ
  longer = buffer ++ replicate room 0

  longer-length : length longer ≡ length buffer + room
  unfolding longer
  longer-length = length-append buffer (replicate room 0) ∙ ap (λ (n : ℕ). length buffer + n) (length-replicate room 0)

  front : take (length buffer) longer ≡ buffer
  unfolding longer
  front = take-append_seam buffer (replicate room 0)

  lay-front-of : (at : ℕ) (bytes : List ℕ) → at + length bytes ≤ room → lay at bytes buffer ≡ take (length buffer) (put at bytes longer)
  lay-front-of at bytes h =
      ap (lay at bytes) (sym front) ∙ lay-take (length buffer) at bytes longer (omega (arith, longer-length))

pub lay-length : (at : ℕ) (bytes buffer : List ℕ) → length (lay at bytes buffer) ≡ length buffer
lay-length at bytes buffer =
    let room = at + length bytes in
    let big = longer-length buffer room in
    ap length (lay-front-of buffer room at bytes (omega arith))
    ∙ length-take-le (length buffer) (put at bytes (longer buffer room)) (omega (arith, put-length at bytes (longer buffer room) (omega arith)))

-- a part that is written where the last one ended
pub lay-next : (base at : ℕ) (a b buffer out : List ℕ) → at ≡ base + length a → out ≡ lay base a buffer → lay at b out ≡ lay base (a ++ b) buffer
lay-next base at a b buffer out e f =
    let room = base + length (a ++ b) in
    let both = length-append a b in
    let big = longer buffer room in
    let long = longer-length buffer room in
    let written = put-length base a big (omega arith) in
    ap₂ (λ (m : ℕ) (l : List ℕ). lay m b l) e (f ∙ lay-front-of buffer room base a (omega arith))
    ∙ lay-take (length buffer) (base + length a) b (put base a big) (omega arith)
    ∙ ap (take (length buffer)) (put-put base a b big (omega arith))
    ∙ sym (lay-front-of buffer room base (a ++ b) (omega arith))

-- ---- Parts one after another

module _ (size : ℕ) where
  lay-all-take : (n : ℕ) {parts : List Part} → All (PartWithin size) parts → (buffer : List ℕ) → size ≤ length buffer
      → lay_all parts (take n buffer) ≡ take n (assemble parts buffer)
  unfolding assemble_by
  lay-all-take n all_nil buffer l = refl
  lay-all-take n (all_cons {x = part} {xs = parts} h hs) buffer l =
      ap (lay_all parts) (lay-take n part.0 part.1 buffer (omega arith))
      ∙ lay-all-take n hs (put part.0 part.1 buffer) (still size part buffer h l)

  -- parts that cover a message are the message, whatever stood in the buffer, and wherever it ends
  pub lay-all : (parts : List Part) (fresh buffer : List ℕ) → All (PartWithin size) parts → Covers size parts → length fresh ≡ size
      → lay_all parts buffer ≡ lay 0 (assemble parts fresh) buffer
  lay-all parts fresh buffer within covers e =
      let big = longer buffer size in
      let long = longer-length buffer size in
      let made = assemble-length size within fresh (omega arith) in
      ap (lay_all parts) (sym (front buffer size))
      ∙ lay-all-take (length buffer) within big (omega arith)
      ∙ ap (take (length buffer)) (assemble-anywhere size parts fresh big within covers e (omega arith))
      ∙ sym (lay-front-of buffer size 0 (assemble parts fresh) (omega arith))

-- ---- Parts that are lent

take_min : (n : ℕ) (list : List ℕ) → take (min (length list) n) list ≡ take n list
take_min n [] = take-nil (min 0 n) ∙ sym (take-nil n)
take_min zero (x ∷ list) = ap (λ (m : ℕ). take m (x ∷ list)) (min-zero (suc (length list)))
take_min (suc n) (x ∷ list) =
    ap (λ (m : ℕ). take m (x ∷ list)) (suc-min-suc (length list) n) ∙ ap (λ (l : List ℕ). x ∷ l) (take_min n list)

-- as many bytes as have room, written from `at` to `at + size`
pub lay-part : (at size : ℕ) (bytes buffer : List ℕ) → size ≡ min (length bytes) (length buffer - at)
    → take at buffer ++ (take size bytes ++ drop (at + size - at) (drop at buffer)) ≡ lay at bytes buffer
lay-part at size bytes buffer e =
    put-part at size (take size bytes) buffer (length-take-le size bytes (omega arith))
    ∙ ap (λ (l : List ℕ). put at l buffer) (ap (λ (n : ℕ). take n bytes) e ∙ take_min (length buffer - at) bytes)

-- the front of a buffer is lent
pub lay-front : (n : ℕ) (bytes buffer : List ℕ) → n ≤ length buffer → lay 0 bytes (take n buffer) ++ drop n buffer ≡ put 0 (take n bytes) buffer
lay-front n bytes buffer h =
    let some = take n bytes in
    let short : length some ≤ n = omega (arith, length-take n bytes) in
    let front = take n buffer in
    ap (λ (m : ℕ). put 0 (take m bytes) front ++ drop n buffer)
    (let e : length front - 0 ≡ n = omega (arith, length-take-le n buffer h) in e)
    ∙ append_assoc some (drop (length some) front) (drop n buffer)
    ∙ ap (λ (l : List ℕ). some ++ l)
    (sym (drop-append-le (length some) front (drop n buffer) (omega (arith, length-take-le n buffer h)))
    ∙ ap (drop (length some)) (take-append-drop n buffer))

-- the rest of a buffer from a place on is lent
pub lay-rest : (at : ℕ) (bytes buffer : List ℕ)
    → take at buffer ++ (lay 0 bytes (drop at buffer) ++ drop (length buffer - at) (drop at buffer)) ≡ lay at bytes buffer
lay-rest at bytes buffer =
    ap (λ (n : ℕ). take at buffer ++ (put 0 (take n bytes) (drop at buffer) ++ drop (length buffer - at) (drop at buffer)))
    (let e : length (drop at buffer) - 0 ≡ length buffer - at = omega (arith, length-drop at buffer) in e)
    ∙ rest-written at (take (length buffer - at) bytes) buffer
