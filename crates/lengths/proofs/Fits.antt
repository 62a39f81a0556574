-- Lengths that fit: each place holds what it may (`place-holds`), so that the places are the numbers of the lines and zeros (`places-are`), and a
-- message's bytes are from 1 to all of its symbols' (`length-within`). Without lines they fit (`none-fit`).
use mathlib.Core.Path.{◌≡◌, refl, sym, ap, ◌∙◌}
use mathlib.Core.Bool.{Bool, true, false, cond, ◌&&◌}
use mathlib.Core.List.{List, [], ◌++◌}
use Prim.Native.Nat.{ℕ, ◌+◌, ◌-◌, ◌≤◌, ◌<◌}
use native.Mathlib.Omega.{arith}
use borrow.Author.Tests.{eqb-true, eq-eqb, leb-true, lt-ltb, le-ltb}
use lib.Dec.{leb, ltb, eqb}
use lib.ListN.{length, get_or, take, drop, replicate, length-replicate, length-drop, take-append-drop}
use lib.Seq.{length-take-le, get_or-drop, ext_get_or}
use Rattle.lists.specs.Ranges.{every}
use Rattle.lists.specs.Padded.{padded}
use Rattle.lists.proofs.Both.{both_true, true-both}
use Rattle.lists.proofs.Every.{every_true, every-at}
use Rattle.lists.proofs.Replicate.{get_or-replicate-same}
use Rattle.lengths.specs.declared.Lengths.{Lengths}
use Rattle.lengths.specs.Lengths.{length_places, no_lengths, place_fits, lengths_fit, length_of, numbers_of}

pub none-fit : (K whole : ℕ) → lengths_fit K whole no_lengths ≡ true
unfolding lengths_fit no_lengths
none-fit K whole =
    true-both (eq-eqb (length (replicate {A = ℕ} length_places 0)) length_places (length-replicate {A = ℕ} length_places 0))
    (every_true length_places _ (λ place h. eq-eqb (get_or (replicate {A = ℕ} length_places 0) place 0) 0 (get_or-replicate-same {A = ℕ} length_places place 0)))

-- elements that are all 0
zeros-are : (l : List ℕ) (size : ℕ) → length l ≡ size → ((i : ℕ) → i < size → get_or l i 0 ≡ 0) → l ≡ replicate size 0
zeros-are l size long zero =
    ext_get_or 0 l (replicate size 0) (long ∙ sym (length-replicate {A = ℕ} size 0))
    (λ i h. zero i (omega (arith, long)) ∙ sym (get_or-replicate-same {A = ℕ} size i 0))

module _ (K whole : ℕ) (l : Lengths) (fit : lengths_fit K whole l ≡ true) where
  both : (eqb (length l.places) length_places ≡ true) × (every length_places (λ place. place_fits l.given K whole place (get_or l.places place 0)) ≡ true)
  unfolding lengths_fit
  both = both_true (eqb (length l.places) length_places) (every length_places (λ place. place_fits l.given K whole place (get_or l.places place 0))) fit

  pub places-many : length l.places ≡ length_places
  places-many = eqb-true (length l.places) length_places both.0

  place-holds : (place : ℕ) → place < length_places → place_fits l.given K whole place (get_or l.places place 0) ≡ true
  place-holds = every-at length_places (λ place. place_fits l.given K whole place (get_or l.places place 0)) both.1

  -- a place that a line fills
  filled : (place : ℕ) → place < length_places → l.given ≡ true → place < K → (1 ≤ get_or l.places place 0) × (get_or l.places place 0 ≤ whole)
  filled place h g k =
      let n = get_or l.places place 0 in
      let p = both_true (leb 1 n) (leb n whole) (rw (g, lt-ltb place K k) at (place-holds place h)) in
      (leb-true 1 n p.0, leb-true n whole p.1)

  -- and one that none fills
  unfilled : (place : ℕ) → place < length_places → l.given && ltb place K ≡ false → get_or l.places place 0 ≡ 0
  unfilled place h f = eqb-true (get_or l.places place 0) 0 (rw f at (place-holds place h))

  -- the numbers of the lines, and zeros behind them
  pub places-are : K ≤ length_places → l.places ≡ padded length_places (numbers_of K l)
  unfolding numbers_of
  places-are few = go l.given refl
    where
      go : (t : Bool) → l.given ≡ t → l.places ≡ padded length_places (cond t (take K l.places) [])
      go true g =
          let long = length-take-le K l.places (omega (arith, places-many)) in
          let size : length (drop K l.places) ≡ length_places - length (take K l.places) = omega (arith, length-drop K l.places, places-many) in
          sym (take-append-drop K l.places)
          ∙ ap (λ (x : List ℕ). take K l.places ++ x)
          (zeros-are (drop K l.places) (length_places - length (take K l.places)) size
          (λ i h. get_or-drop K l.places i 0 ∙ unfilled (K + i) (omega (arith, long)) (rw (g, le-ltb (K + i) K (let w : K ≤ K + i = omega arith in w)))))
      go false g = zeros-are l.places length_places places-many (λ i h. unfilled i h (rw g))

  -- the numbers are as many as messages, or none
  pub numbers-many : K ≤ length_places → l.given ≡ true → length (numbers_of K l) ≡ K
  unfolding numbers_of
  numbers-many few g = rw g (length-take-le K l.places (omega (arith, places-many)))

  -- a message has at least one byte, if its symbols have, and no more than they
  pub length-within : K ≤ length_places → 1 ≤ whole → (k : ℕ) → k < K → (1 ≤ length_of l whole k) × (length_of l whole k ≤ whole)
  unfolding length_of
  length-within few some k inside = go l.given refl
    where
      go : (t : Bool) → l.given ≡ t → (1 ≤ cond t (get_or l.places k 0) whole) × (cond t (get_or l.places k 0) whole ≤ whole)
      go true g = filled k (omega arith) g inside
      go false g = (some, omega arith)
