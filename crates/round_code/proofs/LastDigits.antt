-- Digits in base N from the end: all but the last are those of the number over N, and the last is what is left (`digits_last`); with one digit more a number
-- is N times as large, and the digit (`number-last`). So the
-- digits are written from the last on (`digit-written`), and a number is made of them from the first on (`digit-read`).
use mathlib.Core.Path.{◌≡◌, sym, ap, ap₂, ◌∙◌}
use mathlib.Core.List.{List, [], ◌∷◌, ◌++◌, append_assoc}
use Prim.Native.Nat.{ℕ, zero, suc, ◌+◌, ◌*◌, ◌/◌, ◌%◌, ◌^◌, ◌≤◌, ◌<◌}
use native.Mathlib.Nat.{zero-mul, one-mul, add-mul, mul_assoc, pow-zero, pow-suc, pow-succ', one-le-pow}
use native.Mathlib.Nat.{div-one, div-div-eq-div-mul, div-lt_iff_lt-mul, mod-lt, mod-eq_of_lt}
use native.Mathlib.Numerals.{add-one}
use native.Mathlib.Omega.{arith}
use lib.Arith.{digits_div, digits_mod, mod-mul}
use lib.ListN.{length, get_or, set, take, drop, length-append, length-set}
use lib.Seq.{length-take-le, take-suc, drop-cons, drop-set-lt, get_or-set_same}
use Rattle.lists.specs.Below.{Below}
use Rattle.lists.proofs.Below.{below-take}
use Rattle.parameters.proofs.Powers.{power-fits}
use Rattle.round_scheme.specs.Round.{digits, number}
use Rattle.round_scheme.proofs.Numbers.{number-below}

pub digits_last : (N : ℕ) → 0 < N → (count v : ℕ) → v < N ^ suc count → digits N (suc count) v ≡ digits N count (v / N) ++ (v % N ∷ [])
unfolding digits
digits_last N some zero v h =
    let low : v < N = rw (pow-suc N 0, pow-zero N, one-mul N) at h in
    ap (λ (d : ℕ). d ∷ []) (ap (λ (p : ℕ). v / p) (pow-zero N) ∙ div-one v ∙ sym (mod-eq_of_lt low))
digits_last N some (suc count) v h =
    let p = N ^ count in
    let w = v % N ^ suc count in
    let last = mod-lt v some in
    let split : w ≡ (v / N % p) * N + v % N = ap (λ (m : ℕ). v % m) (pow-suc N count) ∙ mod-mul v (one-le-pow count N some) some in
    let first : v / N ^ suc count ≡ v / N / p = ap (λ (m : ℕ). v / m) (pow-succ' N count) ∙ sym (div-div-eq-div-mul v N p) in
    let over : w / N ≡ v / N % p = ap (λ (m : ℕ). m / N) split ∙ digits_div (v / N % p) last in
    let left : w % N ≡ v % N = ap (λ (m : ℕ). m % N) split ∙ digits_mod (v / N % p) last in
    ap₂ (λ (d : ℕ) (ds : List ℕ). d ∷ ds) first
    (digits_last N some count w (mod-lt v (one-le-pow (suc count) N some)) ∙ ap₂ (λ (m d : ℕ). digits N count m ++ (d ∷ [])) over left)

pub number-last : (N : ℕ) (ds : List ℕ) (d : ℕ) → number N (ds ++ (d ∷ [])) ≡ number N ds * N + d
unfolding number
number-last N [] d = omega (arith, pow-zero N, zero-mul N, ap (λ (p : ℕ). d * p) (pow-zero N))
number-last N (x ∷ ds) d =
    let p = N ^ length ds in
    let longer : N ^ length (ds ++ (d ∷ [])) ≡ p * N =
    ap (λ (n : ℕ). N ^ n) (length-append ds (d ∷ []) ∙ (let e : length ds + 1 ≡ suc (length ds) = omega arith in e)) ∙ pow-suc N (length ds) in
    omega (arith, ap (λ (m : ℕ). x * m) longer, sym (mul_assoc x p N), number-last N ds d, add-mul (x * p) (number N ds) N)

-- a turn of the loop that writes the digits from the last on: one digit more is written, and the digits left give the whole as before
module _ (N : ℕ) (some : 0 < N) (j rest : ℕ) (low : rest < N ^ suc j) where
  pub rest-low : rest / N < N ^ j
  rest-low = (div-lt_iff_lt-mul {k = N} {x = rest} {y = N ^ j} some).1 (rw (pow-suc N j) at low)

  pub digit-written : (out : List ℕ) → j < length out → digits N j (rest / N) ++ drop j (set out j (rest % N)) ≡ digits N (suc j) rest ++ drop (suc j) out
  digit-written out h =
      let long = length-set out j (rest % N) in
      let here : drop j (set out j (rest % N)) ≡ rest % N ∷ drop (suc j) out =
      drop-cons (set out j (rest % N)) j 0 (omega arith)
      ∙ ap₂ (λ (d : ℕ) (ds : List ℕ). d ∷ ds) (get_or-set_same out j (rest % N) 0 h) (drop-set-lt (suc j) out j (rest % N) (omega arith)) in
      ap (λ (l : List ℕ). digits N j (rest / N) ++ l) here
      ∙ sym (append_assoc (digits N j (rest / N)) (rest % N ∷ []) (drop (suc j) out))
      ∙ ap (λ (l : List ℕ). l ++ drop (suc j) out) (sym (digits_last N some j rest low))

-- a turn of the loop that reads them from the first on
pub digit-read : (N : ℕ) (l : List ℕ) (i : ℕ) → i < length l → number N (take (i + 1) l) ≡ number N (take i l) * N + get_or l i 0
digit-read N l i h = ap (λ (n : ℕ). number N (take n l)) (add-one i) ∙ ap (number N) (take-suc l i 0 h) ∙ number-last N (take i l) (get_or l i 0)

-- what is read of digits below N is small
pub read_low : (N : ℕ) → 0 < N → (l : List ℕ) → Below N l → N ^ length l < 2 ^ 64 → (i : ℕ) → i ≤ length l → number N (take i l) < 2 ^ 64
read_low N some l b fits i h =
    let low : number N (take i l) < N ^ length (take i l) = number-below N some (take i l) (below-take N i l b) in
    let most : N ^ length (take i l) < 2 ^ 64 = power-fits N (length (take i l)) (length l) (omega (arith, length-take-le i l h)) fits in
    omega arith
