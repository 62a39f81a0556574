-- Lengths that fit a catalogue's messages can be written: the numbers of their lines are in form (`numbers-in-form`), and the value keeps all of them
-- (`kept-numbers`). And where there are places for all messages, a value has the numbers of which it was kept (`numbers-kept`).
use mathlib.Core.Path.{◌≡◌, refl, sym, ap, ◌∙◌}
use mathlib.Core.Bool.{Bool, true, false, cond}
use mathlib.Core.List.{List, [], ◌∷◌}
use mathlib.Core.Logic.{◌⊎◌, inl, inr, ⊎_elim}
use Prim.Native.Nat.{ℕ, ◌-◌, ◌^◌, ◌≤◌, ◌<◌}
use native.Mathlib.Nat.{not-suc-le-zero}
use native.Mathlib.Omega.{arith}
use borrow.Author.Tests.{lt-ltb}
use lib.Dec.{ltb}
use lib.ListN.{length, get_or, take, replicate}
use lib.Seq.{take_all, take_at, get_or-take}
use Rattle.lists.specs.Below.{Below}
use Rattle.lists.specs.Padded.{padded}
use Rattle.lengths.specs.declared.Lengths.{Lengths}
use Rattle.lengths.specs.Lengths.{length_places, no_lengths, lengths_fit, length_of, numbers_of}
use Rattle.lengths.proofs.Fits.{places-are, numbers-many, length-within}
use Rattle.length_text.specs.LengthLines.{length_digits, InForm, kept}
use Rattle.length_text.proofs.Keeping.{kept-many}

-- K messages of `whole` bytes each
module _ (K whole : ℕ) (l : Lengths) (fit : lengths_fit K whole l ≡ true) (some : 1 ≤ K) (few : K ≤ length_places) where
  numbers-count : (numbers_of K l ≡ []) ⊎ (length (numbers_of K l) ≡ K)
  unfolding numbers_of
  numbers-count = go l.given refl
    where
      go : (t : Bool) → l.given ≡ t → (numbers_of K l ≡ []) ⊎ (length (numbers_of K l) ≡ K)
      go true g = inr (numbers-many K whole l fit few g)
      go false g = inl (rw g)

  numbers-small : 1 ≤ whole → whole < 10 ^ length_digits → Below (10 ^ length_digits) (numbers_of K l)
  unfolding numbers_of length_of
  numbers-small bytes low i = go l.given refl
    where
      go : (t : Bool) → l.given ≡ t → i < length (cond t (take K l.places) []) → get_or (cond t (take K l.places) []) i 0 < 10 ^ length_digits
      go true g h =
          let many : length (take K l.places) ≡ K = rw g at (numbers-many K whole l fit few g) in
          let inside : i < K = omega (arith, many) in
          let most : get_or l.places i 0 ≤ whole = rw g at (length-within K whole l fit few bytes i inside).1 in
          rw (get_or-take K l.places i 0 inside) (omega arith)
      go false g h = absurd (not-suc-le-zero h)

  pub numbers-in-form : 1 ≤ whole → whole < 10 ^ length_digits → InForm K (numbers_of K l)
  numbers-in-form bytes low = record { count = numbers-count; small = numbers-small bytes low }

  -- the mark says whether there are numbers
  marked : ltb 0 (length (numbers_of K l)) ≡ l.given
  unfolding numbers_of
  marked = go l.given refl
    where
      go : (t : Bool) → l.given ≡ t → ltb 0 (length (numbers_of K l)) ≡ t
      go true g = lt-ltb 0 (length (numbers_of K l)) (omega (arith, numbers-many K whole l fit few g))
      go false g = rw g

  within : length (numbers_of K l) ≤ length_places
  within =
      ⊎_elim
      (λ (e : numbers_of K l ≡ []). omega (arith, ap length e))
      (λ (e : length (numbers_of K l) ≡ K). omega arith)
      numbers-count

  pub kept-numbers : kept (numbers_of K l) ≡ l
  kept-numbers =
      kept-many (numbers_of K l) (length (numbers_of K l)) refl
      ∙ ap (λ (t : Bool). record { given = t; places = padded length_places (take length_places (numbers_of K l)) }) marked
      ∙ ap (λ (p : List ℕ). record { given = l.given; places = p })
      (ap (padded length_places) (take_all length_places (numbers_of K l) within) ∙ sym (places-are K whole l fit few))

pub numbers-kept : (K : ℕ) (ns : List ℕ) → InForm K ns → K ≤ length_places → numbers_of K (kept ns) ≡ ns
unfolding numbers_of kept no_lengths
numbers-kept K [] form few = refl
numbers-kept K (n ∷ ns) form few =
    let all = n ∷ ns in
    let many : length all ≡ K =
    ⊎_elim (λ (e : all ≡ []). absurd (not-suc-le-zero (let l = ap length e in let w : 1 ≤ 0 = omega arith in w))) (λ e. e) form.count in
    ap (λ (l : List ℕ). take K (padded length_places l)) (take_all length_places all (omega arith))
    ∙ take_at all (replicate (length_places - length all) 0) K many
