-- Laws of parts written one after another. Parts that lie within the first `size` bytes of a buffer and cover them leave nothing of
-- what stood there, and leave the rest alone (`assemble-anywhere`); parts that are cut from one list and cover it give that list
-- (`assemble-message`).
use mathlib.Core.Path.{◌≡◌, refl, sym, ap, ◌∙◌}
use mathlib.Core.List.{List, [], ◌∷◌, ◌++◌, map, flat_map}
use Prim.Native.Nat.{ℕ, ◌+◌, ◌-◌, ◌≤◌, ◌<◌}
use native.Mathlib.Nat.{zero-add}
use native.Mathlib.Decide.{dec_lt}
use native.Mathlib.Numerals.{add-one}
use native.Mathlib.Omega.{arith}
use lib.ListN.{length, get_or}
use lib.Seq.{ext_get_or}
use Rattle.lists.specs.Any.{Any, any_here, any_later}
use Rattle.lists.specs.Parts.{cut, put}
use Rattle.lists.specs.Assembled.{Part, assemble_by, assemble}
use Rattle.lists.specs.Ranges.{range}
use Rattle.lists.specs.Sums.{All, all_nil, all_cons}
use Rattle.lists.proofs.Puts.{put-length}
use Rattle.lists.proofs.ReadBack.{get_or-put-inside, get_or-put-before, get_or-put-after, put-cut}
use Rattle.lists.proofs.Joined.{flat_map-next}
use Rattle.lists.proofs.Ranges.{range-next}
use Rattle.lists.proofs.Mapped.{map-append}
use Rattle.lists.proofs.Each.{All-imp}

-- the part lies within the first `size` bytes
abbrev pub PartWithin : ℕ → Part → Type 0
PartWithin size part = part.0 + length part.1 ≤ size

-- byte j lies in the part
abbrev pub InPart : ℕ → Part → Type 0
InPart j part = (part.0 ≤ j) × (j < part.0 + length part.1)

-- ---- Lists of parts one after another, and one part, or one list of them, more, whatever writes them

module _ (write : ℕ → List ℕ → List ℕ → List ℕ) where
  pub assemble-append : (parts more : List Part) (buffer : List ℕ)
      → assemble_by write (parts ++ more) buffer ≡ assemble_by write more (assemble_by write parts buffer)
  unfolding assemble_by
  assemble-append [] more buffer = refl
  assemble-append (part ∷ parts) more buffer = assemble-append parts more (write part.0 part.1 buffer)

  pub assemble-none : (part : ℕ → Part) (buffer : List ℕ) → buffer ≡ assemble_by write (map part (range 0 0)) buffer
  unfolding assemble_by range
  assemble-none part buffer = refl

  pub assemble-part : (part : ℕ → Part) (i : ℕ) (buffer : List ℕ)
      → assemble_by write (map part (range 0 (i + 1))) buffer ≡ write (part i).0 (part i).1 (assemble_by write (map part (range 0 i)) buffer)
  unfolding assemble_by
  assemble-part part i buffer =
      ap (λ (l : List ℕ). assemble_by write (map part l) buffer) (ap (range 0) (add-one i) ∙ range-next i)
      ∙ ap (λ (l : List Part). assemble_by write l buffer) (map-append part (range 0 i) (i ∷ []))
      ∙ assemble-append (map part (range 0 i)) (part i ∷ []) buffer

  pub assemble-list : (parts : ℕ → List Part) (i : ℕ) (buffer : List ℕ)
      → assemble_by write (flat_map parts (range 0 (i + 1))) buffer
      ≡ assemble_by write (parts i) (assemble_by write (flat_map parts (range 0 i)) buffer)
  assemble-list parts i buffer =
      ap (λ (l : List Part). assemble_by write l buffer) (ap (λ (n : ℕ). flat_map parts (range 0 n)) (add-one i) ∙ flat_map-next parts i)
      ∙ assemble-append (flat_map parts (range 0 i)) (parts i) buffer

-- ---- One part

module _ (part : Part) where
  -- what was written does not depend on the buffer
  put_in : (j : ℕ) (a b : List ℕ) → PartWithin (length a) part → PartWithin (length b) part → InPart j part
      → get_or (put part.0 part.1 a) j 0 ≡ get_or (put part.0 part.1 b) j 0
  put_in j a b ha hb (low, high) =
      at-start a
      ∙ get_or-put-inside part.0 part.1 a ha (j - part.0) inside
      ∙ sym (at-start b ∙ get_or-put-inside part.0 part.1 b hb (j - part.0) inside)
    where
      inside : j - part.0 < length part.1
      inside = omega arith

      at-start : (l : List ℕ) → get_or (put part.0 part.1 l) j 0 ≡ get_or (put part.0 part.1 l) (part.0 + (j - part.0)) 0
      at-start l = ap (λ (i : ℕ). get_or (put part.0 part.1 l) i 0) (let e : j ≡ part.0 + (j - part.0) = omega arith in e)

  -- and what lies outside the part is as it was
  put-out : (j : ℕ) (a : List ℕ) → PartWithin (length a) part → (InPart j part → ⊥) → get_or (put part.0 part.1 a) j 0 ≡ get_or a j 0
  put-out j a h out = go (dec_lt j part.0) (dec_lt j (part.0 + length part.1))
    where
      go : Dec (j < part.0) → Dec (j < part.0 + length part.1) → get_or (put part.0 part.1 a) j 0 ≡ get_or a j 0
      go (yes l) k = get_or-put-before part.0 part.1 a h j l
      go (no l) (yes k) = absurd (out (omega arith, k))
      go (no l) (no k) =
          let i = j - (part.0 + length part.1) in
          let e : j ≡ part.0 + length part.1 + i = omega arith in
          ap (λ (n : ℕ). get_or (put part.0 part.1 a) n 0) e
          ∙ get_or-put-after part.0 part.1 a h i
          ∙ ap (λ (n : ℕ). get_or a n 0) (sym e)

  in-part : (j : ℕ) → Dec (InPart j part)
  in-part j = go (dec_lt j part.0) (dec_lt j (part.0 + length part.1))
    where
      go : Dec (j < part.0) → Dec (j < part.0 + length part.1) → Dec (InPart j part)
      go (yes l) k = no (λ i. let w : ⊥ = omega (arith, i.0) in w)
      go (no l) (yes k) = yes (omega arith, k)
      go (no l) (no k) = no (λ i. k i.1)

-- ---- Several parts, all within the first `size` bytes of the buffers

-- they cover these bytes
abbrev pub Covers : ℕ → List Part → Type 0
Covers size parts = (j : ℕ) → j < size → Any (InPart j) parts

module _ (size : ℕ) where
  -- one part written, the buffer is still long enough
  pub still : (part : Part) (a : List ℕ) → PartWithin size part → size ≤ length a → size ≤ length (put part.0 part.1 a)
  still part a h l = omega (arith, put-length part.0 part.1 a (let w : part.0 + length part.1 ≤ length a = omega arith in w))

  pub assemble-length : {parts : List Part} → All (PartWithin size) parts → (a : List ℕ) → size ≤ length a → length (assemble parts a) ≡ length a
  unfolding assemble_by
  assemble-length all_nil a l = refl
  assemble-length (all_cons {x = part} h hs) a l =
      assemble-length hs (put part.0 part.1 a) (still part a h l) ∙ put-length part.0 part.1 a (omega arith)

  -- bytes that are the same stay the same
  assemble-same : {parts : List Part} → All (PartWithin size) parts → (j : ℕ) (a b : List ℕ) → size ≤ length a → size ≤ length b → get_or a j 0 ≡ get_or b j 0
      → get_or (assemble parts a) j 0 ≡ get_or (assemble parts b) j 0
  unfolding assemble_by
  assemble-same all_nil j a b la lb e = e
  assemble-same (all_cons {x = part} h hs) j a b la lb e =
      assemble-same hs j (put part.0 part.1 a) (put part.0 part.1 b) (still part a h la) (still part b h lb) (step (in-part part j))
    where
      step : Dec (InPart j part) → get_or (put part.0 part.1 a) j 0 ≡ get_or (put part.0 part.1 b) j 0
      step (yes i) = put_in part j a b (omega arith) (omega arith) i
      step (no i) = put-out part j a (omega arith) i ∙ e ∙ sym (put-out part j b (omega arith) i)

  -- bytes in some part become the same
  assemble-in : {parts : List Part} → All (PartWithin size) parts → (j : ℕ) (a b : List ℕ) → size ≤ length a → size ≤ length b → Any (InPart j) parts
      → get_or (assemble parts a) j 0 ≡ get_or (assemble parts b) j 0
  unfolding assemble_by
  assemble-in all_nil j a b la lb x7 = elim x7 [ ]
  assemble-in (all_cons {x = part} h hs) j a b la lb (any_here i) =
      assemble-same hs j (put part.0 part.1 a) (put part.0 part.1 b) (still part a h la) (still part b h lb)
      (put_in part j a b (omega arith) (omega arith) i)
  assemble-in (all_cons {x = part} h hs) j a b la lb (any_later i) =
      assemble-in hs j (put part.0 part.1 a) (put part.0 part.1 b) (still part a h la) (still part b h lb) i

  -- bytes behind the parts stay
  assemble-out : {parts : List Part} → All (PartWithin size) parts → (j : ℕ) (a : List ℕ) → size ≤ length a → size ≤ j
      → get_or (assemble parts a) j 0 ≡ get_or a j 0
  unfolding assemble_by
  assemble-out all_nil j a l h = refl
  assemble-out (all_cons {x = part} w ws) j a l h =
      assemble-out ws j (put part.0 part.1 a) (still part a w l) h ∙ put-out part j a (omega arith) (λ i. let x : ⊥ = omega (arith, i.1) in x)

  -- what stood in the buffer does not matter, and nothing behind the parts changes
  pub assemble-anywhere : (parts : List Part) (fresh buffer : List ℕ) → All (PartWithin size) parts → Covers size parts → length fresh ≡ size
      → size ≤ length buffer
      → assemble parts buffer ≡ put 0 (assemble parts fresh) buffer
  assemble-anywhere parts fresh buffer within covers e l =
      ext_get_or 0 (assemble parts buffer) (put 0 made buffer) (long ∙ sym (put-length 0 made buffer fits)) at_each
    where
      made : List ℕ
      made = assemble parts fresh

      size-made : length made ≡ size
      size-made = assemble-length within fresh (omega arith) ∙ e

      fits : 0 + length made ≤ length buffer
      fits = omega (arith, size-made)

      long : length (assemble parts buffer) ≡ length buffer
      long = assemble-length within buffer l

      at_each : (j : ℕ) → j < length (assemble parts buffer) → get_or (assemble parts buffer) j 0 ≡ get_or (put 0 made buffer) j 0
      at_each j h = go (dec_lt j size)
        where
          go : Dec (j < size) → get_or (assemble parts buffer) j 0 ≡ get_or (put 0 made buffer) j 0
          go (yes i) =
              assemble-in within j buffer fresh l (omega arith) (covers j i)
              ∙ sym (get_or-put-inside 0 made buffer fits j (omega (arith, size-made)))
              ∙ ap (λ (n : ℕ). get_or (put 0 made buffer) n 0) (zero-add j)
          go (no i) =
              let p : j ≡ 0 + length made + (j - size) = omega (arith, size-made) in
              assemble-out within j buffer l (omega arith)
              ∙ ap (λ (n : ℕ). get_or buffer n 0) p
              ∙ sym (get_or-put-after 0 made buffer fits (j - size))
              ∙ ap (λ (n : ℕ). get_or (put 0 made buffer) n 0) (sym p)

-- ---- Parts of one message

-- the part lies within the message, and is what stands there
pub record PartOf (message : List ℕ) (part : Part) : Type 0 where
  pub within : PartWithin (length message) part
  pub same : part.1 ≡ cut part.0 (length part.1) message

assemble-own : (message : List ℕ) {parts : List Part} → All (PartOf message) parts → assemble parts message ≡ message
unfolding assemble_by
assemble-own message all_nil = refl
assemble-own message (all_cons {x = part} {xs = parts} h hs) =
    ap (assemble parts) (ap (λ (l : List ℕ). put part.0 l message) h.same ∙ put-cut part.0 (length part.1) message h.within)
    ∙ assemble-own message hs

-- parts of one message that cover it give that message, whatever stood in the buffer
pub assemble-message : (message : List ℕ) (parts : List Part) → All (PartOf message) parts → Covers (length message) parts → (buffer : List ℕ)
    → length buffer ≡ length message
    → assemble parts buffer ≡ message
assemble-message message parts parts-of covers buffer e =
    ext_get_or 0 (assemble parts buffer) message (long ∙ e) (λ j h.
    assemble-in (length message) within j buffer message (omega arith) (omega arith) (covers j (omega (arith, long)))
    ∙ ap (λ (l : List ℕ). get_or l j 0) (assemble-own message parts-of))
  where
    within : All (PartWithin (length message)) parts
    within = All-imp (λ part h. h.within) parts-of

    long : length (assemble parts buffer) ≡ length buffer
    long = assemble-length (length message) within buffer (omega arith)
