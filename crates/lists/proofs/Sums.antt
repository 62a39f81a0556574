-- Sums: over joined, mapped, repeated and kept lists (`sum-append`, `sum-flat_map`, `sum-keep`), of equal terms (`sum-all`), in two
-- orders (`sum-swap`), of bits, and over ranges (`sum-range`, `sum-most`, `sum-grows`).
use Prim.Native.Nat.{ℕ, zero, suc, ◌+◌, ◌-◌, ◌*◌, ◌≤◌, ◌<◌}
use native.Mathlib.Nat.{mul-add, mul-zero, mul-one, zero-mul, one-mul, suc-mul}
use native.Mathlib.Omega.{arith}
use mathlib.Core.Path.{◌≡◌, refl, sym, ap, ◌∙◌, fun_ext}
use mathlib.Core.List.{List, [], ◌∷◌, ◌++◌, map, flat_map}
use mathlib.Core.Bool.{Bool, true, false}
use lib.ListN.{length, get_or, replicate}
use Rattle.lists.specs.Sums.{All, all_nil, all_cons, bit, keep, keep_if, sum}
use Rattle.lists.specs.Ranges.{range}
use Rattle.lists.proofs.Bits.{bit-zero}
use Rattle.lists.proofs.Ranges.{range_length, range-next, range-around, All-range}

module _ {A : Type 0} where
  pub sum-append : (f : A → ℕ) (xs ys : List A) → sum f (xs ++ ys) ≡ sum f xs + sum f ys
  unfolding sum
  sum-append f [] ys = omega arith
  sum-append f (x ∷ xs) ys = omega (arith, sum-append f xs ys)

  pub sum-add : (f g : A → ℕ) (xs : List A) → sum (λ x. f x + g x) xs ≡ sum f xs + sum g xs
  unfolding sum
  sum-add f g [] = omega arith
  sum-add f g (x ∷ xs) = omega (arith, sum-add f g xs)

  pub sum-mul : (c : ℕ) (f : A → ℕ) (xs : List A) → sum (λ x. c * f x) xs ≡ c * sum f xs
  unfolding sum
  sum-mul c f [] = sym (mul-zero c)
  sum-mul c f (x ∷ xs) = omega (arith, sum-mul c f xs, mul-add c (f x) (sum f xs))

  pub sum-ext : (f g : A → ℕ) → ((x : A) → f x ≡ g x) → (xs : List A) → sum f xs ≡ sum g xs
  sum-ext f g e xs = ap (λ h. sum h xs) (fun_ext e)

  pub sum-all : (f g : A → ℕ) {xs : List A} → All (λ x. f x ≡ g x) xs → sum f xs ≡ sum g xs
  unfolding sum
  sum-all f g all_nil = refl
  sum-all f g (all_cons e a) = omega (arith, e, sum-all f g a)

  sum-const : (c : ℕ) (xs : List A) → sum (λ x. c) xs ≡ length xs * c
  unfolding sum
  sum-const c [] = sym (zero-mul c)
  sum-const c (x ∷ xs) = omega (arith, sum-const c xs, suc-mul (length xs) c)

  pub sum-zero : (xs : List A) → sum (λ x. 0) xs ≡ 0
  sum-zero xs = sum-const 0 xs ∙ mul-zero (length xs)

  pub sum_one : (xs : List A) → sum (λ x. 1) xs ≡ length xs
  sum_one xs = sum-const 1 xs ∙ mul-one (length xs)

  pub sum-keep : (f : A → ℕ) (t : A → Bool) (xs : List A) → sum f (keep t xs) ≡ sum (λ x. bit (t x) * f x) xs
  unfolding sum keep keep_if bit
  sum-keep f t [] = refl
  sum-keep f t (x ∷ xs) = go (t x) (sum-keep f t xs)
    where
      go : (b : Bool) → sum f (keep t xs) ≡ sum (λ y. bit (t y) * f y) xs → sum f (keep_if b x (keep t xs)) ≡ bit b * f x + sum (λ y. bit (t y) * f y) xs
      go true e = omega (arith, one-mul (f x))
      go false e = omega (arith, zero-mul (f x))

  pub sum-keep-most : (f : A → ℕ) (t : A → Bool) (xs : List A) → sum f (keep t xs) ≤ sum f xs
  unfolding keep keep_if sum
  sum-keep-most f t [] = omega arith
  sum-keep-most f t (x ∷ xs) = go (t x) (sum-keep-most f t xs)
    where
      go : (b : Bool) → sum f (keep t xs) ≤ sum f xs → sum f (keep_if b x (keep t xs)) ≤ sum f (x ∷ xs)
      go true ih = omega arith
      go false ih = omega arith

  pub sum-replicate : (f : A → ℕ) (n : ℕ) (x : A) → sum f (replicate n x) ≡ n * f x
  unfolding sum
  sum-replicate f zero x = sym (zero-mul (f x))
  sum-replicate f (suc n) x = omega (arith, sum-replicate f n x, suc-mul n (f x))

  -- where a sum of bits is 0, no test holds
  pub sum-none : (t : A → Bool) (xs : List A) → sum (λ x. bit (t x)) xs ≡ 0 → All (λ x. t x ≡ false) xs
  unfolding sum
  sum-none t [] e = all_nil
  sum-none t (x ∷ xs) e = all_cons (bit-zero (t x) (omega arith)) (sum-none t xs (omega arith))

module _ {A B : Type 0} where
  pub sum-flat_map : (f : A → ℕ) (g : B → List A) (xs : List B) → sum f (flat_map g xs) ≡ sum (λ x. sum f (g x)) xs
  unfolding sum flat_map
  sum-flat_map f g [] = refl
  sum-flat_map f g (x ∷ xs) = omega (arith, sum-append f (g x) (flat_map g xs), sum-flat_map f g xs)

  pub sum-map : (f : A → ℕ) (g : B → A) (xs : List B) → sum f (map g xs) ≡ sum (λ x. f (g x)) xs
  unfolding sum
  sum-map f g [] = refl
  sum-map f g (x ∷ xs) = omega (arith, sum-map f g xs)

  pub sum-swap : (f : A → B → ℕ) (xs : List A) (ys : List B) → sum (λ x. sum (f x) ys) xs ≡ sum (λ y. sum (λ x. f x y) xs) ys
  unfolding sum
  sum-swap f [] ys = sym (sum-zero ys)
  sum-swap f (x ∷ xs) ys = ap (λ s. sum (f x) ys + s) (sum-swap f xs ys) ∙ sym (sum-add (f x) (λ y. sum (λ z. f z y) xs) ys)

pub sum_first : (f : ℕ → ℕ) (a n : ℕ) → sum f (range (suc a) n) ≡ sum (λ i. f (suc i)) (range a n)
unfolding sum range
sum_first f a zero = refl
sum_first f a (suc n) = omega (arith, sum_first f (suc a) n)

pub sum-next : (f : ℕ → ℕ) (n : ℕ) → sum f (range 0 (suc n)) ≡ sum f (range 0 n) + f n
unfolding sum
sum-next f n = omega (arith, ap (sum f) (range-next n), sum-append f (range 0 n) (n ∷ []))

-- the same term for each number
pub sum_same : (c n : ℕ) → sum (λ i. c) (range 0 n) ≡ n * c
sum_same c n = sum-const c (range 0 n) ∙ ap (λ m. m * c) (range_length 0 n)

-- two sums over a range are equal where their terms are
pub sum-range : (f g : ℕ → ℕ) (n : ℕ) → ((i : ℕ) → i < n → f i ≡ g i) → sum f (range 0 n) ≡ sum g (range 0 n)
sum-range f g n h = sum-all f g (All-range n h)

-- terms of at most c
pub sum-most : (f : ℕ → ℕ) (c n : ℕ) → ((i : ℕ) → f i ≤ c) → sum f (range 0 n) ≤ n * c
unfolding sum range
sum-most f c zero h = omega arith
sum-most f c (suc n) h = omega (arith, sum-next f n, sum-most f c n h, h n, suc-mul n c)

-- a longer sum is no smaller
pub sum-grows : (f : ℕ → ℕ) (i n : ℕ) → i < n → sum f (range 0 i) + f i ≤ sum f (range 0 n)
unfolding sum
sum-grows f i n h =
    let rest = range (suc i) (n - suc i) in
    omega (arith, ap (sum f) (range-around n i h), sum-append f (range 0 i) (i ∷ rest))

-- a sum over a list, place by place
pub sum-at : {A : Type 0} (w : A → ℕ) (d : A) (l : List A) → sum w l ≡ sum (λ i. w (get_or l i d)) (range 0 (length l))
unfolding sum range
sum-at w d [] = refl
sum-at w d (x ∷ l) = omega (arith, sum-at w d l, sum_first (λ i. w (get_or (x ∷ l) i d)) 0 (length l))
