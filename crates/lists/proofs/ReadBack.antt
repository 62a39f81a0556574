-- What a buffer holds after a part was written into it: the part itself (`cut-put`), and before and after it what it held
-- (`cut-put-before`, `cut-put-after`); the same by elements. What is read and written back changes nothing (`put-cut`).
use mathlib.Core.Path.{◌≡◌, refl, sym, ap, ◌∙◌}
use mathlib.Core.List.{List, ◌++◌, append_assoc}
use Prim.Native.Nat.{ℕ, ◌+◌, ◌-◌, ◌≤◌, ◌<◌}
use native.Mathlib.Omega.{arith}
use lib.ListN.{length, get_or, take, drop, length-append, length-drop, take-append-drop, get_or-append}
use lib.Seq.{length-take-le, take_at, drop_at, take-append-le, drop-append-le, drop-drop, get_or-take, get_or-drop, get_or-append-add}
use Rattle.lists.specs.Parts.{cut, put}
use Rattle.lists.proofs.Cuts.{cut-length}

-- a part of the first of two lists
cut-first : (front back : List ℕ) (at size : ℕ) → at + size ≤ length front → cut at size (front ++ back) ≡ cut at size front
cut-first front back at size h =
    rw (drop-append-le at front back (omega arith)) (take-append-le size (drop at front) back (simp length-drop (omega arith)))

module _ (at : ℕ) (bytes buffer : List ℕ) (fits : at + length bytes ≤ length buffer) where
  abbrev rest : List ℕ
  rest = drop (length bytes) (drop at buffer)

  front_length : length (take at buffer) ≡ at
  front_length = length-take-le at buffer (omega arith)

  pub cut-put : cut at (length bytes) (put at bytes buffer) ≡ bytes
  cut-put = rw (drop_at (take at buffer) (bytes ++ rest) at front_length) (take_at bytes rest (length bytes) refl)

  pub cut-put-before : (from size : ℕ) → from + size ≤ at → cut from size (put at bytes buffer) ≡ cut from size buffer
  cut-put-before from size h =
      cut-first (take at buffer) (bytes ++ rest) from size (rw front_length h)
      ∙ sym (cut-first (take at buffer) (drop at buffer) from size (rw front_length h))
      ∙ ap (cut from size) (take-append-drop at buffer)

  drop-end : drop (at + length bytes) (put at bytes buffer) ≡ drop (at + length bytes) buffer
  drop-end =
      ap (drop (at + length bytes)) (sym (append_assoc (take at buffer) bytes rest))
      ∙ drop_at (take at buffer ++ bytes) rest (at + length bytes) (simp (length-append, front_length))
      ∙ drop-drop (length bytes) at buffer

  pub cut-put-after : (from size : ℕ) → at + length bytes ≤ from → cut from size (put at bytes buffer) ≡ cut from size buffer
  cut-put-after from size h =
      let d : ℕ = from - (at + length bytes) in
      let e : from ≡ (at + length bytes) + d = omega arith in
      ap (take size) (rw (e, ← drop-drop d (at + length bytes) (put at bytes buffer), ← drop-drop d (at + length bytes) buffer, drop-end))

  pub get_or-put-inside : (i : ℕ) → i < length bytes → get_or (put at bytes buffer) (at + i) 0 ≡ get_or bytes i 0
  get_or-put-inside i h =
      ap (λ (n : ℕ). get_or (put at bytes buffer) (n + i) 0) (sym front_length)
      ∙ get_or-append-add (take at buffer) (bytes ++ rest) i 0
      ∙ get_or-append bytes rest 0 i h

  pub get_or-put-before : (i : ℕ) → i < at → get_or (put at bytes buffer) i 0 ≡ get_or buffer i 0
  get_or-put-before i h = get_or-append (take at buffer) (bytes ++ rest) 0 i (omega (arith, front_length)) ∙ get_or-take at buffer i 0 h

  pub get_or-put-after : (i : ℕ) → get_or (put at bytes buffer) (at + length bytes + i) 0 ≡ get_or buffer (at + length bytes + i) 0
  get_or-put-after i =
      sym (get_or-drop (at + length bytes) (put at bytes buffer) i 0)
      ∙ ap (λ (l : List ℕ). get_or l i 0) drop-end
      ∙ get_or-drop (at + length bytes) buffer i 0

-- a part written back where it was read
pub put-cut : (at size : ℕ) (buffer : List ℕ) → at + size ≤ length buffer → put at (cut at size buffer) buffer ≡ buffer
put-cut at size buffer h =
    ap (λ (n : ℕ). take at buffer ++ (cut at size buffer ++ drop n (drop at buffer))) (cut-length at size buffer h)
    ∙ ap (λ (l : List ℕ). take at buffer ++ l) (take-append-drop size (drop at buffer))
    ∙ take-append-drop at buffer
