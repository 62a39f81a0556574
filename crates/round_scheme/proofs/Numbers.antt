-- Digits in base N: `count` digits below N and the numbers below N^count go one to one (`number_digits`, `digits_number`).
use Prim.Native.Nat.{ℕ, zero, suc, ◌+◌, ◌*◌, ◌/◌, ◌%◌, ◌^◌, ◌<◌}
use native.Mathlib.Nat.{pow-zero, pow-succ', one-le-pow, zero-mul, suc-mul, mod-lt, mod-eq_of_lt, div-add-mod', div-eq_of_lt}
use native.Mathlib.Nat.{div-lt_iff_lt-mul, mul-add-div_right, mul-add-mod_self_right, mul-le-mul_right}
use native.Mathlib.Omega.{arith}
use mathlib.Core.Path.{◌≡◌, refl, sym, ap, ap₂, ◌∙◌}
use mathlib.Core.Bool.{Bool, false, cond}
use mathlib.Core.List.{List, [], ◌∷◌}
use borrow.Author.Tests.{ne_eqb, le-ltb}
use lib.Dec.{eqb}
use lib.ListN.{length}
use Rattle.lists.specs.Below.{all_below, Below}
use Rattle.lists.proofs.Below.{below-cons}
use Rattle.round_scheme.specs.Round.{digits, number}

pub digits-length : (N count v : ℕ) → length (digits N count v) ≡ count
unfolding digits
digits-length N zero v = refl
digits-length N (suc count) v = ap suc (digits-length N count (v % N ^ count))

module _ (N : ℕ) (some : 0 < N) where
  pub power-some : (count : ℕ) → 0 < N ^ count
  power-some count = one-le-pow count N some

  pub digits-below : (count v : ℕ) → v < N ^ count → Below N (digits N count v)
  unfolding digits
  digits-below zero v h = λ i k. absurd (let w : ⊥ = omega arith in w)
  digits-below (suc count) v h =
      below-cons N (v / N ^ count) (digits N count (v % N ^ count))
      ((div-lt_iff_lt-mul {k = N ^ count} {x = v} {y = N} (power-some count)).1 (rw (pow-succ' N count) at h))
      (digits-below count (v % N ^ count) (mod-lt v (power-some count)))

  pub number_digits : (count v : ℕ) → v < N ^ count → number N (digits N count v) ≡ v
  unfolding digits number
  number_digits zero v h = omega (arith, pow-zero N)
  number_digits (suc count) v h =
      ap₂ (λ (k m : ℕ). v / N ^ count * N ^ k + m) (digits-length N count (v % N ^ count)) (number_digits count (v % N ^ count) (mod-lt v (power-some count)))
      ∙ div-add-mod' v (N ^ count)

  pub number-below : (ds : List ℕ) → Below N ds → number N ds < N ^ length ds
  unfolding number
  number-below [] b = power-some 0
  number-below (d ∷ ds) b =
      let first : d < N = b 0 (omega arith) in
      omega (
        arith,
        number-below ds (λ i k. b (suc i) (omega arith)),
        suc-mul d (N ^ length ds),
        mul-le-mul_right (N ^ length ds) first,
        pow-succ' N (length ds),
      )

  pub digits_number : (ds : List ℕ) → Below N ds → digits N (length ds) (number N ds) ≡ ds
  unfolding digits number
  digits_number [] b = refl
  digits_number (d ∷ ds) b =
      let p = N ^ length ds in
      let rest : Below N ds = λ i k. b (suc i) (omega arith) in
      let low : number N ds < p = number-below ds rest in
      let first : (d * p + number N ds) / p ≡ d =
      mul-add-div_right (power-some (length ds)) d (number N ds) ∙ omega (arith, div-eq_of_lt low) in
      let later : (d * p + number N ds) % p ≡ number N ds = mul-add-mod_self_right d p (number N ds) ∙ mod-eq_of_lt low in
      ap₂ (λ (x y : ℕ). x ∷ digits N (length ds) y) first later ∙ ap (λ l. d ∷ l) (digits_number ds rest)

  -- equally many digits with one number are the same
  pub number-only : (ds es : List ℕ) → Below N ds → Below N es → length ds ≡ length es → number N ds ≡ number N es → ds ≡ es
  number-only ds es b c long e =
      sym (digits_number ds b) ∙ ap₂ (λ (k m : ℕ). digits N k m) long e ∙ digits_number es c

  -- the number is 0 exactly if the digits are
  pub number-zero : (ds : List ℕ) → all_below 1 ds ≡ eqb (number N ds) 0
  unfolding number all_below
  number-zero [] = refl
  number-zero (zero ∷ ds) =
      number-zero ds ∙ ap (λ n. eqb n 0) (let e : number N ds ≡ 0 * N ^ length ds + number N ds = omega (arith, zero-mul (N ^ length ds)) in e)
  number-zero (suc d ∷ ds) =
      let p = power-some (length ds) in
      ap (λ (t : Bool). cond t (all_below 1 ds) false) (le-ltb (suc d) 1 (omega arith))
      ∙ sym (ne_eqb (suc d * N ^ length ds + number N ds) 0 (λ z. let w : ⊥ = omega (arith, suc-mul d (N ^ length ds)) in w))
