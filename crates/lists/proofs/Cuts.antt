-- Parts that are read (`cut`): their length and elements, a part of a part, a part up to the end, and parts side by side: each is the part at its
-- own place, where they are of one size (`flat_map-cut`) and of any sizes (`flat_map-part`), and a list is its parts of one size joined (`joined-cuts`).
use Prim.Native.Nat.{ℕ, zero, suc, ◌+◌, ◌-◌, ◌*◌, ◌≤◌, ◌<◌}
use native.Mathlib.Nat.{mul-le-mul_right, suc-mul, zero-mul, not-suc-le-zero, le_of_eq}
use native.Mathlib.Omega.{arith}
use mathlib.Core.Path.{◌≡◌, refl, sym, ap, ◌∙◌}
use mathlib.Core.List.{List, [], ◌∷◌, ◌++◌, flat_map}
use lib.ListN.{length, get_or, take, drop, length-append, length-drop}
use lib.Seq.{length-take-le, take_all, take_at, take-add, take-take, drop_at, drop-drop, drop-append-add, drop-append_seam, get_or-take, get_or-drop}
use Rattle.lists.specs.Parts.{cut}
use Rattle.lists.specs.Ranges.{range}
use Rattle.lists.specs.Sums.{sum, All, all_nil, all_cons}
use Rattle.lists.proofs.Joined.{flat_map-append}
use Rattle.lists.proofs.Ranges.{range-around, All-range}

pub cut-length : (at size : ℕ) (buffer : List ℕ) → at + size ≤ length buffer → length (cut at size buffer) ≡ size
cut-length at size buffer h = length-take-le size (drop at buffer) (let e = length-drop at buffer in omega arith)

pub cut_at : (at size i : ℕ) (buffer : List ℕ) → i < size → get_or (cut at size buffer) i 0 ≡ get_or buffer (at + i) 0
cut_at at size i buffer h = get_or-take size (drop at buffer) i 0 h ∙ get_or-drop at buffer i 0

cut-front : (at size whole : ℕ) (buffer : List ℕ) → at + size ≤ whole → cut at size (take whole buffer) ≡ cut at size buffer
cut-front zero size whole buffer h = take-take size whole buffer (omega arith)
cut-front (suc at) size zero buffer h = absurd (let w : ⊥ = omega arith in w)
cut-front (suc at) size (suc whole) [] h = refl
cut-front (suc at) size (suc whole) (x ∷ buffer) h = cut-front at size whole buffer (omega arith)

-- a part of a part
pub cut-cut : (at size from whole : ℕ) (buffer : List ℕ) → at + size ≤ whole → cut at size (cut from whole buffer) ≡ cut (from + at) size buffer
cut-cut at size from whole buffer h = cut-front at size whole (drop from buffer) h ∙ ap (take size) (drop-drop at from buffer)

-- a part that goes to the list's end
pub to_end : (list : List ℕ) (at : ℕ) → take (length list - at) (drop at list) ≡ drop at list
to_end list at = take_all (length list - at) (drop at list) (le_of_eq (length-drop at list))

-- where a part stands at a place, the rest stands after it
pub drop-after : (list part rest : List ℕ) (at : ℕ) → drop at list ≡ part ++ rest → drop (at + length part) list ≡ rest
drop-after list part rest at e =
    sym (drop-drop (length part) at list) ∙ ap (drop (length part)) e ∙ drop-append_seam part rest

-- a table that begins with a list
pub front-is : (count : ℕ) (table front more : List ℕ) → table ≡ front ++ more → length front ≡ count → take count table ≡ front
front-is count table front more e long = rw e (take_at front more count long)

pub front_fits : (count : ℕ) (table front more : List ℕ) → table ≡ front ++ more → length front ≡ count → count ≤ length table
front_fits count table front more e long = omega (arith, ap length e, length-append front more)

-- of parts of one size, one ends where the next begins, or before
pub slot-end : (i j size : ℕ) → i < j → i * size + size ≤ j * size
slot-end i j size h = omega (arith, mul-le-mul_right size h, suc-mul i size)

-- lists of bytes of one size: each is its part of them joined
module _ {A : Type 0} (f : A → List ℕ) (size : ℕ) where
  pub flat_map-cut : (d : A) {xs : List A} → All (λ x. length (f x) ≡ size) xs → (i : ℕ) → i < length xs
      → cut (i * size) size (flat_map f xs) ≡ f (get_or xs i d)
  unfolding flat_map
  flat_map-cut d all_nil i h = absurd (not-suc-le-zero h)
  flat_map-cut d (all_cons {x = x} {xs = xs} e a) zero h =
      ap (λ (n : ℕ). cut n size (f x ++ flat_map f xs)) (zero-mul size) ∙ take_at (f x) (flat_map f xs) size e
  flat_map-cut d (all_cons {x = x} {xs = xs} e a) (suc i) h =
      ap (λ (n : ℕ). cut n size (f x ++ flat_map f xs)) (let s : suc i * size ≡ length (f x) + i * size = omega (arith, suc-mul i size) in s)
      ∙ ap (λ (l : List ℕ). cut 0 size l) (drop-append-add (f x) (flat_map f xs) (i * size))
      ∙ flat_map-cut d a i (omega arith)

-- how long lists are together
pub flat_map-lengths : {A B : Type 0} (g : A → List B) (w : A → ℕ) {xs : List A} → All (λ x. length (g x) ≡ w x) xs → length (flat_map g xs) ≡ sum w xs
unfolding flat_map sum
flat_map-lengths g w all_nil = refl
flat_map-lengths g w (all_cons {x = x} {xs = xs} e a) = omega (arith, length-append (g x) (flat_map g xs), flat_map-lengths g w a)

-- lists of bytes of any sizes: each is its part of them joined
pub flat_map-part : (g : ℕ → List ℕ) (w : ℕ → ℕ) (n : ℕ) → ((i : ℕ) → i < n → length (g i) ≡ w i) → (i : ℕ) → i < n
    → cut (sum w (range 0 i)) (w i) (flat_map g (range 0 n)) ≡ g i
unfolding flat_map
flat_map-part g w n long i h =
    let rest = flat_map g (range (suc i) (n - suc i)) in
    ap (λ l. cut (sum w (range 0 i)) (w i) (flat_map g l)) (range-around n i h)
    ∙ ap (cut (sum w (range 0 i)) (w i)) (flat_map-append g (range 0 i) (i ∷ range (suc i) (n - suc i)))
    ∙ ap (take (w i)) (drop_at (flat_map g (range 0 i)) (g i ++ rest) (sum w (range 0 i)) (flat_map-lengths g w (All-range i (λ j k. long j (omega arith)))))
    ∙ take_at (g i) rest (w i) (long i h)

-- parts of one size, side by side, are one part
pub cut-join : (size from count : ℕ) (buffer : List ℕ)
    → flat_map (λ (i : ℕ). cut (i * size) size buffer) (range from count) ≡ cut (from * size) (count * size) buffer
unfolding flat_map range
cut-join size from zero buffer = ap (λ (n : ℕ). cut (from * size) n buffer) (sym (zero-mul size))
cut-join size from (suc count) buffer =
    let next : drop (suc from * size) buffer ≡ drop size (drop (from * size) buffer) =
    ap (λ (n : ℕ). drop n buffer) (suc-mul from size) ∙ sym (drop-drop size (from * size) buffer) in
    ap (λ (x : List ℕ). cut (from * size) size buffer ++ x)
    (cut-join size (suc from) count buffer ∙ ap (take (count * size)) next)
    ∙ sym (take-add size (count * size) (drop (from * size) buffer))
    ∙ ap (λ (n : ℕ). cut (from * size) n buffer) (let e : size + count * size ≡ suc count * size = omega (arith, suc-mul count size) in e)

pub joined-cuts : (size n : ℕ) (l : List ℕ) → length l ≡ n * size → flat_map (λ i. cut (i * size) size l) (range 0 n) ≡ l
joined-cuts size n l e = cut-join size 0 n l ∙ rw (zero-mul size) (take_all (n * size) l (omega arith))
