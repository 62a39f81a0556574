-- How many sets of messages there are, weighed by x to the power of their size: all (`gen-one`), without a message (`gen-not`), and with
-- one and without another (`gen-both`).
use Prim.Native.Nat.{ℕ, zero, suc, ◌+◌, ◌*◌, ◌^◌, ◌<◌}
use native.Mathlib.Nat.{mul-add, mul-zero, zero-mul, one-mul, mul-one, suc-mul, mul_assoc, pow-zero, pow-succ', not-suc-le-zero}
use native.Mathlib.Omega.{arith}
use mathlib.Core.Path.{◌≡◌, refl, sym, ap, ◌∙◌, fun_ext}
use mathlib.Core.Logic.{◌≢◌}
use mathlib.Core.List.{List, [], ◌∷◌, map}
use mathlib.Core.Bool.{Bool, true, false, not}
use Rattle.lists.specs.Sums.{bit, sum}
use Rattle.lists.specs.Ranges.{range}
use Rattle.lists.proofs.Sums.{sum-append, sum-map, sum-add, sum-mul, sum-ext, sum-zero, sum_first, sum-next}
use Rattle.even_places.specs.Rule.{has, sets}

-- no set has more messages than there are
sets_over : (K b : ℕ) → K < b → sets K b ≡ []
unfolding sets
sets_over zero zero h = absurd (not-suc-le-zero h)
sets_over zero (suc b) h = refl
sets_over (suc K) zero h = absurd (not-suc-le-zero h)
sets_over (suc K) (suc b) h = rw (sets_over K b (omega arith), sets_over K (suc b) (omega arith))

module _ (w : List Bool → ℕ) (K : ℕ) where
  pub sets-none : sum w (sets (suc K) 0) ≡ sum (λ A. w (false ∷ A)) (sets K 0)
  unfolding sets
  sets-none = sum-map w (λ A. false ∷ A) (sets K 0)

  pub sets-some : (b : ℕ) → sum w (sets (suc K) (suc b)) ≡ sum (λ A. w (true ∷ A)) (sets K b) + sum (λ A. w (false ∷ A)) (sets K (suc b))
  unfolding sets
  sets-some b =
      sum-append w (map (λ A. true ∷ A) (sets K b)) (map (λ A. false ∷ A) (sets K (suc b)))
      ∙ rw (sum-map w (λ A. true ∷ A) (sets K b), sum-map w (λ A. false ∷ A) (sets K (suc b)))

-- the sum over all sets of x to the size, times a weight; and without the empty set, a power less
unfoldable pub gen : ℕ → ℕ → (List Bool → ℕ) → ℕ
gen x K w = sum (λ b. x ^ b * sum w (sets K b)) (range 0 (suc K))

unfoldable pub tail : ℕ → ℕ → (List Bool → ℕ) → ℕ
tail x K w = sum (λ b. x ^ b * sum w (sets K (suc b))) (range 0 K)

module _ (x : ℕ) where
  -- a sum of powers from the second term on
  powers : (f : ℕ → ℕ) (n : ℕ) → sum (λ b. x ^ b * f b) (range 0 (suc n)) ≡ f 0 + x * sum (λ b. x ^ b * f (suc b)) (range 0 n)
  unfolding sum range
  powers f n =
      let a : sum (λ b. x ^ b * f b) (range 1 n) ≡ sum (λ b. x ^ suc b * f (suc b)) (range 0 n) = sum_first (λ b. x ^ b * f b) 0 n in
      let b : sum (λ b. x ^ suc b * f (suc b)) (range 0 n) ≡ sum (λ b. x * (x ^ b * f (suc b))) (range 0 n) =
      sum-ext (λ b. x ^ suc b * f (suc b)) (λ b. x * (x ^ b * f (suc b))) (λ b. rw (pow-succ' x b, mul_assoc x (x ^ b) (f (suc b)))) (range 0 n) in
      let c : x ^ 0 * f 0 ≡ f 0 = rw (pow-zero x, one-mul (f 0)) in
      omega (arith, a, b, c, sum-mul x (λ b. x ^ b * f (suc b)) (range 0 n))

  pub gen-tail : (K : ℕ) (w : List Bool → ℕ) → gen x K w ≡ sum w (sets K 0) + x * tail x K w
  unfolding gen tail
  gen-tail K w = powers (λ b. sum w (sets K b)) K

  gen-step : (K : ℕ) (w : List Bool → ℕ) → gen x (suc K) w ≡ x * gen x K (λ A. w (true ∷ A)) + gen x K (λ A. w (false ∷ A))
  unfolding gen sum
  gen-step K w =
      let T : ℕ → ℕ = λ b. sum (λ A. w (true ∷ A)) (sets K b) in
      let F : ℕ → ℕ = λ b. sum (λ A. w (false ∷ A)) (sets K b) in
      let a : sum (λ b. x ^ b * sum w (sets (suc K) (suc b))) (range 0 (suc K)) ≡ sum (λ b. x ^ b * T b + x ^ b * F (suc b)) (range 0 (suc K)) =
      sum-ext (λ b. x ^ b * sum w (sets (suc K) (suc b))) (λ b. x ^ b * T b + x ^ b * F (suc b))
      (λ b. ap (λ s. x ^ b * s) (sets-some w K b) ∙ mul-add (x ^ b) (T b) (F (suc b))) (range 0 (suc K)) in
      let over : x ^ K * F (suc K) ≡ 0 = rw (sets_over K (suc K) (omega arith)) (rw no-sets (mul-zero (x ^ K))) in
      let c : sum (λ b. x ^ b * T b + x ^ b * F (suc b)) (range 0 (suc K))
      ≡ sum (λ b. x ^ b * T b) (range 0 (suc K)) + sum (λ b. x ^ b * F (suc b)) (range 0 K) =
      omega (arith, sum-add (λ b. x ^ b * T b) (λ b. x ^ b * F (suc b)) (range 0 (suc K)), sum-next (λ b. x ^ b * F (suc b)) K, over) in
      omega (
        arith,
        powers (λ b. sum w (sets (suc K) b)) (suc K),
        ap (λ s. x * s) (a ∙ c),
        powers F K,
        sets-none w K,
        mul-add x (sum (λ b. x ^ b * T b) (range 0 (suc K))) (sum (λ b. x ^ b * F (suc b)) (range 0 K)),
      )
    where
      no-sets : sum (λ A. w (false ∷ A)) [] ≡ 0
      no-sets = refl

  gen-ext : (K : ℕ) {w v : List Bool → ℕ} → ((A : List Bool) → w A ≡ v A) → gen x K w ≡ gen x K v
  gen-ext K e = ap (gen x K) (fun_ext e)

  gen-zero : (K : ℕ) → gen x K (λ A. 0) ≡ 0
  unfolding gen
  gen-zero K =
      sum-ext (λ b. x ^ b * sum (λ A. 0) (sets K b)) (λ b. 0) (λ b. rw (sum-zero (sets K b)) (mul-zero (x ^ b))) (range 0 (suc K)) ∙ sum-zero (range 0 (suc K))

  pub gen-one : (K : ℕ) → gen x K (λ A. 1) ≡ suc x ^ K
  unfolding gen sum range sets
  gen-one zero = omega (arith, pow-zero x, pow-zero (suc x), mul-one (x ^ 0))
  gen-one (suc K) = gen-step K (λ A. 1) ∙ omega (arith, gen-one K, ap (λ s. x * s) (gen-one K), suc-mul x (suc x ^ K), pow-succ' (suc x) K)

  twice : (K : ℕ) → x * (x * suc x ^ K) + x * suc x ^ K ≡ x * suc x ^ suc K
  twice K = sym (mul-add x (x * suc x ^ K) (suc x ^ K)) ∙ ap (λ s. x * s) (sym (suc-mul x (suc x ^ K)) ∙ sym (pow-succ' (suc x) K))

  gen-has : (K p : ℕ) → p < suc K → gen x (suc K) (λ A. bit (has p A)) ≡ x * suc x ^ K
  unfolding has bit
  gen-has K zero h = gen-step K (λ A. bit (has 0 A)) ∙ omega (arith, ap (λ s. x * s) (gen-one K), gen-zero K)
  gen-has zero (suc p) h = absurd (omega arith)
  gen-has (suc K) (suc p) h =
      gen-step (suc K) (λ A. bit (has (suc p) A))
      ∙ omega (arith, gen-has K p (omega arith), ap (λ s. x * s) (gen-has K p (omega arith)), twice K)

  pub gen-not : (K k : ℕ) → k < suc K → gen x (suc K) (λ A. bit (not (has k A))) ≡ suc x ^ K
  unfolding has bit
  gen-not K zero h = gen-step K (λ A. bit (not (has 0 A))) ∙ omega (arith, ap (λ s. x * s) (gen-zero K), mul-zero x, gen-one K)
  gen-not zero (suc k) h = absurd (omega arith)
  gen-not (suc K) (suc k) h =
      gen-step (suc K) (λ A. bit (not (has (suc k) A)))
      ∙ omega (arith, gen-not K k (omega arith), ap (λ s. x * s) (gen-not K k (omega arith)), suc-mul x (suc x ^ K), pow-succ' (suc x) K)

  pub gen-both : (K k p : ℕ) → k < suc (suc K) → p < suc (suc K) → p ≢ k → gen x (suc (suc K)) (λ A. bit (not (has k A)) * bit (has p A)) ≡ x * suc x ^ K
  unfolding has bit
  gen-both K zero zero hk hp e = absurd (e refl)
  gen-both K zero (suc p) hk hp e =
      gen-step (suc K) (λ A. bit (not (has 0 A)) * bit (has (suc p) A))
      ∙ omega (
        arith,
        ap (λ s. x * s) (gen-ext (suc K) {w = λ A. 0 * bit (has p A)} {v = λ A. 0} (λ A. zero-mul (bit (has p A))) ∙ gen-zero (suc K)),
        mul-zero x,
        gen-ext (suc K) {w = λ A. 1 * bit (has p A)} {v = λ A. bit (has p A)} (λ A. one-mul (bit (has p A))),
        gen-has K p (omega arith),
      )
  gen-both K (suc k) zero hk hp e =
      gen-step (suc K) (λ A. bit (not (has (suc k) A)) * bit (has 0 A))
      ∙ omega (
        arith,
        ap (λ s. x * s)
            (gen-ext (suc K) {w = λ A. bit (not (has k A)) * 1} {v = λ A. bit (not (has k A))} (λ A. mul-one (bit (not (has k A))))
            ∙ gen-not K k (omega arith)),
        gen-ext (suc K) {w = λ A. bit (not (has k A)) * 0} {v = λ A. 0} (λ A. mul-zero (bit (not (has k A)))) ∙ gen-zero (suc K),
      )
  gen-both zero (suc k) (suc p) hk hp e = absurd (e (omega arith))
  gen-both (suc K) (suc k) (suc p) hk hp e =
      let ih = gen-both K k p (omega arith) (omega arith) (λ q. e (ap suc q)) in
      gen-step (suc (suc K)) (λ A. bit (not (has (suc k) A)) * bit (has (suc p) A)) ∙ omega (arith, ih, ap (λ s. x * s) ih, twice K)

-- the empty set has no message
none_has : (K p : ℕ) → sum (λ A. bit (has p A)) (sets K 0) ≡ 0
unfolding has bit sets sum
none_has zero zero = refl
none_has zero (suc p) = refl
none_has (suc K) zero = sets-none (λ A. bit (has 0 A)) K ∙ sum-zero (sets K 0)
none_has (suc K) (suc p) = sets-none (λ A. bit (has (suc p) A)) K ∙ none_has K p

pub none-not : (K k : ℕ) → sum (λ A. bit (not (has k A))) (sets K 0) ≡ 1
unfolding has bit sets sum
none-not zero zero = refl
none-not zero (suc p) = refl
none-not (suc K) zero = sets-none (λ A. bit (not (has 0 A))) K ∙ none-one K
  where
    none-one : (J : ℕ) → sum (λ A. 1) (sets J 0) ≡ 1
    none-one zero = refl
    none-one (suc J) = sets-none (λ A. 1) J ∙ none-one J
none-not (suc K) (suc p) = sets-none (λ A. bit (not (has (suc p) A))) K ∙ none-not K p

-- the set of all messages lacks none
pub full-has : (K k : ℕ) → k < K → sum (λ A. bit (not (has k A))) (sets K K) ≡ 0
unfolding has bit sum
full-has zero k h = absurd (not-suc-le-zero h)
full-has (suc K) zero h = sets-some (λ A. bit (not (has 0 A))) K K ∙ rw (sets_over K (suc K) (omega arith), sum-zero (sets K K))
full-has (suc K) (suc k) h = sets-some (λ A. bit (not (has (suc k) A))) K K ∙ rw (sets_over K (suc K) (omega arith), full-has K k (omega arith))

-- as many sets of b messages lack k as sets of one more have it
pub swap-has : (K k b : ℕ) → k < K → sum (λ A. bit (not (has k A))) (sets K b) ≡ sum (λ A. bit (has k A)) (sets K (suc b))
unfolding has bit
swap-has zero k b h = absurd (not-suc-le-zero h)
swap-has (suc K) zero zero h =
    omega (arith, sets-none (λ A. bit (not (has 0 A))) K, sets-some (λ A. bit (has 0 A)) K 0, sum-zero (sets K 1))
swap-has (suc K) zero (suc b) h =
    omega (arith, sets-some (λ A. bit (not (has 0 A))) K b, sets-some (λ A. bit (has 0 A)) K (suc b), sum-zero (sets K b), sum-zero (sets K (suc (suc b))))
swap-has (suc K) (suc k) zero h =
    omega (arith, sets-none (λ A. bit (not (has (suc k) A))) K, sets-some (λ A. bit (has (suc k) A)) K 0, swap-has K k 0 (omega arith), none_has K k)
swap-has (suc K) (suc k) (suc b) h =
    omega (
      arith,
      sets-some (λ A. bit (not (has (suc k) A))) K b,
      sets-some (λ A. bit (has (suc k) A)) K (suc b),
      swap-has K k b (omega arith),
      swap-has K k (suc b) (omega arith),
    )
