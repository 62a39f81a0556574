-- The lines of numbers: joined (`text-append`), and line by line, as a loop writes and counts them (`text-more`, `length_more`, `length-within`).
-- Those of a value have the numbers of its first places (`front-numbers`).
use mathlib.Core.Path.{◌≡◌, refl, sym, ap, ◌∙◌}
use mathlib.Core.Bool.{Bool, true, false, cond}
use mathlib.Core.List.{List, [], ◌∷◌, ◌++◌, append_assoc, append-nil}
use Prim.Native.Nat.{ℕ, zero, suc, ◌+◌, ◌≤◌, ◌<◌}
use native.Mathlib.Numerals.{add-one}
use native.Mathlib.Omega.{arith}
use lib.ListN.{length, get_or, take, drop, length-append, take-append-drop}
use lib.Seq.{take-suc}
use Rattle.text_lines.specs.Lines.{number_text}
use Rattle.lengths.specs.declared.Lengths.{Lengths}
use Rattle.lengths.specs.Lengths.{numbers_of}
use Rattle.length_text.specs.LengthLines.{length_name, length_text}

pub text-append : (ns ms : List ℕ) → length_text (ns ++ ms) ≡ length_text ns ++ length_text ms
unfolding length_text
text-append [] ms = refl
text-append (n ∷ ns) ms =
    let line = number_text length_name n in
    ap (λ (l : List ℕ). line ++ l) (text-append ns ms) ∙ sym (append_assoc line (length_text ns) (length_text ms))

text-one : (n : ℕ) → length_text (n ∷ []) ≡ number_text length_name n
unfolding length_text
text-one n = append-nil (number_text length_name n)

pub text-more : (ns : List ℕ) (i : ℕ) → i < length ns
    → length_text (take (i + 1) ns) ≡ length_text (take i ns) ++ number_text length_name (get_or ns i 0)
text-more ns i h =
    ap (λ (n : ℕ). length_text (take n ns)) (add-one i)
    ∙ ap length_text (take-suc ns i 0 h)
    ∙ text-append (take i ns) (get_or ns i 0 ∷ [])
    ∙ ap (λ (l : List ℕ). length_text (take i ns) ++ l) (text-one (get_or ns i 0))

pub length_more : (ns : List ℕ) (i : ℕ) → i < length ns
    → length (length_text (take (i + 1) ns)) ≡ length (length_text (take i ns)) + length (number_text length_name (get_or ns i 0))
length_more ns i h = ap length (text-more ns i h) ∙ length-append (length_text (take i ns)) (number_text length_name (get_or ns i 0))

-- the first lines are no longer than all
pub length-within : (ns : List ℕ) (i : ℕ) → length (length_text (take i ns)) ≤ length (length_text ns)
length-within ns i =
    let split : length_text ns ≡ length_text (take i ns) ++ length_text (drop i ns) =
    ap length_text (sym (take-append-drop i ns)) ∙ text-append (take i ns) (drop i ns) in
    omega (arith, ap length split, length-append (length_text (take i ns)) (length_text (drop i ns)))

-- ---- of a value

front-is : (k : ℕ) (places : List ℕ) → take k places ≡ take (length (take k places)) places
front-is zero places = refl
front-is (suc k) [] = refl
front-is (suc k) (x ∷ places) = ap (λ (l : List ℕ). x ∷ l) (front-is k places)

-- the numbers of its lines are those of its first places
numbers-front : (K : ℕ) (l : Lengths) → take (length (numbers_of K l)) l.places ≡ numbers_of K l
unfolding numbers_of
numbers-front K l = go l.given
  where
    go : (t : Bool) → take (length (cond t (take K l.places) [])) l.places ≡ cond t (take K l.places) []
    go true = sym (front-is K l.places)
    go false = refl

pub front-numbers : (K count : ℕ) (l : Lengths) → count ≡ length (numbers_of K l) → take count l.places ≡ numbers_of K l
front-numbers K count l e = ap (λ (n : ℕ). take n l.places) e ∙ numbers-front K l
